-- Lemmas.
pub mod Hashed
pub mod Refusing
pub mod Keys
pub mod Giving
