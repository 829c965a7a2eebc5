-- What steps made stays known as the table grows, and is made of what their operands made.
pub mod Stepping
pub mod Later
pub mod Memory
pub mod Making
pub mod Listing
pub mod Taking
pub mod Mapping
pub mod Gathered
