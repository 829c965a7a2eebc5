-- What a reader of the contracts has to believe of the proof log of a run: its text, and what the check of that ends
-- with.
pub mod Derived
pub mod Writing
pub mod Checked
