-- What a reader of the contracts has to believe: the pieces of a text file, and their texts.
pub mod Pieces
