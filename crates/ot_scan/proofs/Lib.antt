-- Lemmas on numbers, lines and what is read.
pub mod Digits
pub mod Limits
pub mod Taking
pub mod Held
pub mod Coming
pub mod Fitting
pub mod AllFit
