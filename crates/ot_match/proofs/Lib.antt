-- Lemmas on matching.
pub mod Once
pub mod Pairs
pub mod Matches
pub mod Rows
pub mod Adding
pub mod Walking
pub mod Leading
-- Maps, and the steps of the matcher.
pub mod Holding
