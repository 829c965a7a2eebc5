-- Lemmas on substitution by a walk over the nodes of a table.
pub mod Shallow
pub mod Becoming
pub mod Pairs
pub mod Keys
pub mod Growing
pub mod Variables
pub mod Faults
pub mod Catching
pub mod Binders
pub mod NewNames
pub mod Unchanged
pub mod Walked
pub mod Abstraction
pub mod Taken
pub mod Counting
pub mod Redex
pub mod ByPlace
