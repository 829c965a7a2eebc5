-- Lemmas on tables of nodes.
pub mod Placing
