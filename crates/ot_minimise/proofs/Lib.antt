pub mod OverNames
pub mod Alone
