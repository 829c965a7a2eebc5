-- Sets of numbers as trees, and the table of them.
pub mod Trees
pub mod Codes
pub mod Table
pub mod Unions
