-- What a reader of the contracts has to believe: the tokens of a proof log.
pub mod Reading
pub mod Taking
pub mod Asking
pub mod Logged
pub mod Verifying
pub mod Going
pub mod Finding
pub mod Held
pub mod Later
