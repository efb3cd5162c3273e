-- Chains over one table: what each changing call of `Chained` leaves.
pub mod Written
pub mod StoredChains
pub mod Begun
pub mod Joined
pub mod Divided
pub mod TakenOut
pub mod Freed
pub mod Shelves
pub mod Whole
pub mod Opened
