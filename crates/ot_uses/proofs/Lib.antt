-- Lemmas on what theorems rest on.
mod Parted
mod Leaves
mod Resting
mod Reached
pub mod Goodness
mod Suffices
mod Sound
mod Using
mod Lines
mod Renamed
mod Numbering
mod Rising
mod Placed
mod Leading
mod Standing
mod Found
mod Exports
mod Picking
