-- What is written of a run, and what that does when it is run alone.
pub mod Minimised
