-- What is written of types, terms and records.
pub mod Showing
pub mod Adding
pub mod Deriving
