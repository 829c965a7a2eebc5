-- What a reader of the contracts has to believe of the records of words.
pub mod Listing
pub mod Recording
