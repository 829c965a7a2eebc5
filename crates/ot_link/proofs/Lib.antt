-- Parts of a link that read a file.
pub mod FileParts
-- How the run of an article ends.
pub mod Ending
-- The article or the package among statements.
pub mod Finding
-- A link in parts.
pub mod Parts
-- The theory file of a path, and what goes on with it.
pub mod TheoryFiles
-- The blocks of a theory file that has a plan.
pub mod Runnable
-- The interpretation of a block, one statement at a time.
pub mod OneMore
-- One pair more in an interpretation of numbers.
pub mod Interning
-- The context of a block.
pub mod InBlock
-- What the statements of a block name.
pub mod Saying
pub mod Naming
-- How a package is opened, and how a theory file that was read is run.
pub mod Opened
-- Blocks in their order, one after another.
pub mod Sequence
-- Blocks by their places.
pub mod Standing
-- The exports that are held of the blocks that have run.
pub mod Held
-- Exports, each sequent once.
pub mod EachOnce
-- What is lawful over a run is lawful over a later one.
pub mod Lawful
-- What the stated run of a theory file leaves is lawful.
pub mod EndsLawful
-- What the run of an article or a block leaves.
pub mod Leaving
