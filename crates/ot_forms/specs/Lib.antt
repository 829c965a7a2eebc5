-- What a reader has to believe of readable text, and its laws.
pub mod Words
pub mod Forms
pub mod Meaning
pub mod Refusals
pub mod Parts
pub mod Printing
pub mod Laws
pub mod Reading
