-- What a run's symbols are, and the parts of readable text that the printer puts on a page.
pub mod Run
pub mod Found
pub mod Spines
pub mod Under
pub mod Back
pub mod Summary
