mod Hopping
pub mod Outcomes
