pub mod lists
mod linking
mod Stacked
mod chains
