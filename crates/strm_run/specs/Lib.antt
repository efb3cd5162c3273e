pub mod Outcome
pub mod Watched
pub mod Told
pub mod Working
pub mod Holding
