mod Constants
mod OnParts
mod Replays
pub mod Accounts
pub mod Tokens
mod Moved
mod AnyBytes
mod SameQueues
mod Applied
mod Shaped
