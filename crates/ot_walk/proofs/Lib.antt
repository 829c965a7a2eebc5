-- Members of lists, by the test and by recursion.
pub mod Members
-- What a walk gives.
pub mod Walking
-- The order of first edges.
pub mod Turns
-- The walk's bound is enough.
pub mod Ending
-- The rest of a walk.
pub mod Rest
