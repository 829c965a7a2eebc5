-- What a reader of the contracts has to believe: the grammar of theory files.
pub mod Lines
pub mod Forms
pub mod Values
pub mod Interpretations
pub mod Theory
pub mod Sound
pub mod Places
pub mod Answers
pub mod Reading
pub mod Quoting
