-- What a reader of the contracts has to believe: the run of theory files.
pub mod Stops
pub mod Planned
pub mod Renaming
pub mod Blocks
pub mod Link
pub mod Answers
pub mod Adding
pub mod Holding
pub mod Running
pub mod Lawful
pub mod Laws
pub mod Shown
