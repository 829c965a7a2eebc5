-- What the program answers: the texts of faults, and the reply to words and input.
pub mod Texts
pub mod World
pub mod Tasks
pub mod Runs
-- the commands, each in a file of its own
pub mod Command
pub mod RunInput
pub mod Samples
pub mod CheckLog
pub mod ShowReadable
pub mod ReadLines
pub mod FindPattern
pub mod Reply
pub mod Answer
pub mod Laws
-- how the parts of the program end
pub mod Endings
pub mod Verdicts
pub mod Searches
pub mod Wording
