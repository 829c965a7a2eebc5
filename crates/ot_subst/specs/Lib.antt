-- What a reader of the contracts has to believe of substitution.
pub mod Substitution
pub mod Walk
pub mod Memory
pub mod Places
pub mod Held
pub mod Renamed
pub mod Clash
pub mod Fault
pub mod Beta
