-- What a reader of the contracts has to believe: a walk, depth first, each key once, behind all that it leads to.
pub mod Walk
pub mod Walks
