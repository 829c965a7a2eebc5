-- The number of a sample is found by its decimal text.
pub mod Counts
-- Options that are read one by one ask for what the list of them says.
pub mod OptionLemmas
-- One word more is read as the grammar has it.
pub mod Steps
-- Commands are read exactly as they are written.
pub mod Written
