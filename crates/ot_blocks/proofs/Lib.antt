-- How far the walk is.
pub mod SoFar
-- One step of the walk.
pub mod Steps
-- What the laws of walks say of the order.
pub mod Ordering
-- The bytes and the parts of full names.
pub mod FullNames
-- What is collected from a list.
pub mod Collecting
-- Names of blocks and their places.
pub mod Placing
-- The plan, from its parts.
pub mod PlanLaws
