-- Records that are written.
pub mod Noding
pub mod Expanding
pub mod Fitting
pub mod Ruled
pub mod Firsts
pub mod Same
pub mod Reading
pub mod Feeding
pub mod Standing
pub mod Sequents
pub mod Several
pub mod Ending
pub mod Definitions
pub mod Within
