-- Lemmas on comparison.
pub mod Comparison
