-- What a reader of the contracts has to believe of the table of terms.
pub mod Term
pub mod TermTable
pub mod NodeHash
pub mod Greatest
pub mod Classing
pub mod Equality
pub mod Fault
pub mod Walk
pub mod Gather
pub mod Symbols
pub mod Free
