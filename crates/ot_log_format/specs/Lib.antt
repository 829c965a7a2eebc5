-- What a reader of the contracts has to believe: a proof log, its tokens and records, and what it ends with.
pub mod Tokens
pub mod Steps
pub mod State
pub mod Records
pub mod Check
pub mod Sound
pub mod Walks
