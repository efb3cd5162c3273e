mod Constants
pub mod Lists
pub mod store
mod layout
