-- On the model alone: what is counted, named and left.
pub mod Counts
pub mod Frame
pub mod Calls
pub mod Stands
