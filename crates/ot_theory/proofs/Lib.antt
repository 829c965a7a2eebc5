-- The first piece.
pub mod Cutting
-- Lengths that are added up from the front.
pub mod Quotes
-- Sets of names and symbols.
pub mod Sets
-- Interpretations, read and written.
pub mod Interpreting
-- The lines that pass.
pub mod Steps
-- Quoted paths.
pub mod Paths
-- Trimmed pieces, and the forms of lines.
pub mod Trims
pub mod LineForms
-- What holds of each theory.
pub mod Statements
pub mod Soundness
-- Where a theory's parts stand.
pub mod Standing
