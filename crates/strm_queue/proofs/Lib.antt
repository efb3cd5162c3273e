mod Constants
pub mod bands
pub mod Shelf
pub mod order
mod Counting
pub mod Laid
pub mod Agreeing
pub mod Flow
mod moving
