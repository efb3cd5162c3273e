-- Calls that make messages.
pub mod Begun
pub mod Duplicated
pub mod CopiesCounted
pub mod Copied
