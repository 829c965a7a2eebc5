-- Lemmas on the table of names, types and terms.
pub mod ItemLemmas
pub mod NodeLemmas
pub mod MapLemmas
pub mod ListLemmas
pub mod PlaceLemmas
pub mod TypingLemmas
pub mod ShapeLemmas
pub mod InstanceLemmas
pub mod ChangeLemmas
