mod Constants
pub mod Lists
mod Nodes
pub mod arena
mod layout
mod Altering
mod joining
mod Freeing
mod making
mod Trimming
mod Reading
pub mod pulling
pub mod Shelving
