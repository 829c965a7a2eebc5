-- Lemmas on alpha classes.
pub mod Alike
pub mod Leaves
pub mod Frees
pub mod Filled
pub mod Classes
