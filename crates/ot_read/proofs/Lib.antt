-- What is read from left to right is what the forms say; lines one after another.
pub mod Telling
pub mod Standing
pub mod Joining
pub mod Filling
pub mod Alike
