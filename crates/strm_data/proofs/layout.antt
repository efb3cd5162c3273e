-- Data blocks, regions and free lists as they lie in memory.
pub mod Extents
pub mod Seen
pub mod Alterations
pub mod Taking
pub mod Opened
pub mod Copying
