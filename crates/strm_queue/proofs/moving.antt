-- The model of the calls that put messages on queues, take them off and flush them.
pub mod Puts
pub mod Gets
pub mod Flushing
pub mod Taking
pub mod Fronts
