-- Lemmas on the table of steps, and on the walk over it.
pub mod TraceLemmas
pub mod EnterLemmas
pub mod WalkLemmas
pub mod EdgeLemmas
pub mod NoteLemmas
pub mod ReachLemmas
pub mod OperandLemmas
pub mod TallyLemmas
