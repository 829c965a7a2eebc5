-- Lemmas on known bytes, on sources and on places of files.
pub mod Keeping
pub mod Reading
pub mod Readings
pub mod Fronts
pub mod KnownBytes
pub mod Places
