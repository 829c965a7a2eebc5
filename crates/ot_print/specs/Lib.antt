-- What a reader has to believe of the texts of definitions and of the summary.
pub mod Texts
-- That a text names one thing.
pub mod Laws
-- What the parts of the code answer.
pub mod Equations
