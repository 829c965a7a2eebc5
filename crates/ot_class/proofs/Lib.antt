-- Lemmas on the table of alpha classes.
pub mod ShapeLemmas
pub mod Growing
pub mod Making
pub mod Freeing
pub mod Spelling
