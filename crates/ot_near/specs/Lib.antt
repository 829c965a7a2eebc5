-- Where a node is looked for, and what a table of nodes keeps.
pub mod Place
pub mod Table
-- Where a key is looked for.
pub mod Key
