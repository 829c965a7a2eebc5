-- Origins, the table of steps, what roots lead to in it, and how often a step is used.
pub mod Origins
pub mod OriginCodes
pub mod Kept
pub mod OperandHash
pub mod Trace
pub mod StepHash
pub mod Greatest
pub mod Reach
pub mod Walk
pub mod Uses
pub mod Tally
