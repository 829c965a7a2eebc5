-- What a reader of the contracts has to believe: the packages that a theory file requires.
pub mod Required
pub mod Answers
pub mod Laws
-- What the code's parts answer.
pub mod Reading
