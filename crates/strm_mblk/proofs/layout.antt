-- Message blocks as they lie in memory, and the arena that they show.
pub mod StoredArena
pub mod Rooms
pub mod HeldBlocks
