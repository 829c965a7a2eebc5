pub mod Recorded
pub mod Listed
pub mod Defining
