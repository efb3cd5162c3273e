-- Ranks of messages, priority order, and the place of a message by its rank.
pub mod Order
pub mod Ends
pub mod Places
