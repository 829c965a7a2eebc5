-- What a reader of the contracts has to believe: the grammar of the command's words.
pub mod Grammar
pub mod Reading
