-- Lemmas on sets of numbers.
pub mod SetLemmas
pub mod UnionLemmas
pub mod AddingLemmas
