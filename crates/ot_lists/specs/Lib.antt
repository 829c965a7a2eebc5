-- What a reader of the contracts has to believe of lists of variables.
pub mod Variables
pub mod Lists
pub mod Maps
pub mod Ranks
pub mod SequenceTable
pub mod Sequences
pub mod Frames
pub mod Places
pub mod Parts
pub mod Pieces
pub mod NodeHash
