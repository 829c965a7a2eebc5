-- What a reader of the contracts has to believe of the values of steps.
pub mod Steps
pub mod Lists
pub mod Reading
pub mod Staying
pub mod Known
