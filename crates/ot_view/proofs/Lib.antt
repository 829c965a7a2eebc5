-- The numbers of a kernel's tables, read from the tables.
pub mod Spelled
