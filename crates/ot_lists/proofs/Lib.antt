-- Lemmas on lists of variables.
pub mod Snoc
pub mod Sublists
pub mod Ranks
pub mod FrameLemmas
pub mod Seams
pub mod PartLemmas
pub mod SequenceLemmas
pub mod Cutting
pub mod Lifting
pub mod Pushing
pub mod Runs
pub mod MapLemmas
pub mod PieceLemmas
pub mod JoinLemmas
pub mod JoinLifting
pub mod Apart
