-- What a reader of the contracts has to believe: the lines of an article and their words.
pub mod Words
pub mod Lines
pub mod Reading
