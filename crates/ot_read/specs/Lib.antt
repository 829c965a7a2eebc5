-- What the lines of a readable text stand for.
pub mod Lines
pub mod Laws
