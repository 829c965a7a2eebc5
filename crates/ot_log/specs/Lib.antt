-- What a reader of the contracts has to believe of the writer of proof logs.
pub mod Logs
pub mod Keeping
pub mod Ready
pub mod Working
