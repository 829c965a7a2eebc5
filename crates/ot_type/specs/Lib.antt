-- The table of types.
pub mod TypeTable
pub mod Instance
pub mod Subtypes
pub mod NodeHash
