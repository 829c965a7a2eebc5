-- What contracts see of a signature.
pub mod Codes
pub mod Signature
pub mod Answers
pub mod Given
