-- Texts in pieces: what is put before what is left, the texts of types and terms by their parts, and how two texts
-- compare; and the place of a term among others.
pub mod Pushing
pub mod Parts
pub mod Stepping
pub mod Placing
