-- The pieces of texts that the printers put on a page.
pub mod Pieces
