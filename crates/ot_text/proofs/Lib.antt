-- The law: a text, followed by further bytes, gives back what it is the text of. And what is put on a page.
pub mod Spelling
pub mod TypeLaw
pub mod Numbers
pub mod Forms
pub mod TermLaw
pub mod Ascending
pub mod SequentLaw
pub mod Decimals
pub mod Putting
pub mod TypePieces
pub mod Separating
pub mod SectionPieces
pub mod Gathering
