-- What the steps of a trace lead to.
pub mod Found
pub mod Columns
pub mod Leads
pub mod Meeting
pub mod Closing
