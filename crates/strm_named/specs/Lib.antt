pub mod NamedValue
pub mod NamedCalls
pub mod Stamps
pub mod NamedLayout
pub mod Receiving
