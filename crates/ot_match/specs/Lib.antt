-- What a reader of the contracts has to believe: patterns, and what they match.
pub mod Matching
pub mod Laws
pub mod Walk
pub mod Found
-- What the parts of the code answer.
pub mod Steps
