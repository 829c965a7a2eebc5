-- Lemmas on what the steps of a trace lead to.
pub mod Firsts
pub mod FirstPlaces
pub mod ClosingLaw
pub mod ColumnLemmas
pub mod MeetLemmas
pub mod NotingLemmas
pub mod PassLemmas
pub mod Inserting
pub mod TakingLemmas
pub mod UsesLaw
