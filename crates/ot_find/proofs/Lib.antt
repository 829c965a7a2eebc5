-- Lemmas on matches and their text.
mod Matching
mod Indented
mod Pieces
