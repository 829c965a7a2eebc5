-- What a reader of the contracts has to believe of the records of a proof log that is written: what they name, and
-- their text.
pub mod Entries
pub mod Expansions
pub mod Logged
pub mod Bytes
pub mod Closed
pub mod Same
