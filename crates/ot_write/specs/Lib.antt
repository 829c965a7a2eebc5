-- What a reader of the contracts has to believe: the bytes that are appended, and what the code stands for.
pub mod Bytes
pub mod Limited
pub mod Emitting
