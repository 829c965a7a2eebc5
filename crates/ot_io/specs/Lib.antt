-- What a reader of the contracts has to believe: causes of failures, sinks, files, sources, the objects in memory.
pub mod Causes
pub mod Sinks
pub mod Folder
pub mod Keeping
pub mod Reading
pub mod Readings
pub mod Whole
pub mod MemoryStates
pub mod FileList
