pub mod Limits
pub mod Refusal
pub mod MsgType
pub mod Classes
pub mod DataStore
pub mod Lending
pub mod CountedStore
pub mod DataLayout
