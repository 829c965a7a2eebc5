-- What the code's trees and answers stand for.
pub mod Symbols
pub mod Bases
pub mod Plain
pub mod Gives
pub mod Pieces
pub mod Frames
pub mod Meant
pub mod Values
pub mod Refused
pub mod TermFrames
pub mod TermCode
pub mod ReadLines
