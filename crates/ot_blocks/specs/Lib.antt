-- What a reader of the contracts has to believe: the blocks of a theory file before they run.
pub mod Order
pub mod Ordering
pub mod Paths
pub mod Structure
pub mod Answers
