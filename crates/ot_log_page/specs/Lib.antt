-- What a reader of the contracts has to believe of the tables with which a proof log is written.
pub mod Sheets
pub mod Derived
