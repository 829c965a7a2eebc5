-- What a reader of the contracts has to believe of the table of alpha classes.
pub mod Numbers
pub mod Class
pub mod Table
pub mod Joins
pub mod Spelled
pub mod NodeHash
