-- What a contract sees: the classes, the data blocks and their counts.
pub mod Lawful
pub mod Kept
pub mod Opening
