pub mod Headers
pub mod Modules
