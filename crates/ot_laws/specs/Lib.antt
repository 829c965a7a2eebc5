-- Definitions and statements of the laws.
pub mod Walk
pub mod Theorem
pub mod Limits
pub mod Laws
pub mod Conditions
pub mod Next
