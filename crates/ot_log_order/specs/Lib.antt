-- Texts in pieces, and where a term is put among others.
pub mod Pieces
pub mod Places
