-- What a reader of the contracts has to believe of the steps of a log.
pub mod Statements
pub mod Shapes
pub mod Limits
pub mod Putting
pub mod Definitions
pub mod Parts
pub mod Symbols
pub mod Conditions
pub mod Keeping
pub mod Accepting
