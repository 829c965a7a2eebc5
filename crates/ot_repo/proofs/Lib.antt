-- The packages that are required.
pub mod Requiring
-- The list of installed packages.
pub mod Picking
-- What is collected tag by tag.
pub mod Tags
-- How far the walk over packages is.
pub mod SoFar
-- One step of it.
pub mod Steps
-- What it has reached.
pub mod Reached
-- Small folders, by computation.
pub mod Rows
-- The bytes of a file, from the front of it that was read.
pub mod FileTexts
