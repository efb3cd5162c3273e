mod Constants
mod Gathering
pub mod Opening
pub mod Refusing
mod Weighing
mod Turning
mod Telling
mod Batching
mod Crews
mod seats
