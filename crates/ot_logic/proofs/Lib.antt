-- Lemmas on the definitions.
pub mod Reading
pub mod Shortlist
pub mod Spelling
pub mod TableLemmas
pub mod NameLemmas
pub mod InternedLemmas
pub mod Line
pub mod Lift
pub mod Naming
pub mod PlainTrees
pub mod Members
pub mod Elements
pub mod Results
pub mod Putting
pub mod Copying
