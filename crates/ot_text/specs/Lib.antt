-- What a reader has to believe of the printed texts, and the law that a text names one thing.
pub mod Texts
pub mod Sections
pub mod Types
pub mod Laws
pub mod Pages
pub mod Separated
pub mod Gathered
