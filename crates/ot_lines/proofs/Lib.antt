-- Lemmas on cutting and trimming.
pub mod Pieces
pub mod Trimming
