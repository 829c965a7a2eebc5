-- Lemmas on finite maps of names.
pub mod Composed
pub mod Building
pub mod Renaming
