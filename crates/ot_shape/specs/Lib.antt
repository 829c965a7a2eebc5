-- What a reader of the contracts has to believe of alpha classes.
pub mod Shape
pub mod Laws
pub mod Codes
