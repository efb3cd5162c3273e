-- `pullupmsg`.
pub mod Taken
pub mod FrontPulled
pub mod Drained
