-- The pieces of readable text that the printers put on a page, and the symbols of a run's terms.
pub mod DottedWords
pub mod TypePieces
pub mod TermPieces
pub mod Relations
pub mod Roots
pub mod Finding
pub mod Propositions
pub mod SameSymbols
