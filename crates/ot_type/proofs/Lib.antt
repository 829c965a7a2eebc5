-- Lemmas on the table of types.
pub mod Entering
pub mod TypeTableLemmas
pub mod NamesIn
pub mod InstLemmas
pub mod SubtypeLemmas
pub mod VarLemmas
