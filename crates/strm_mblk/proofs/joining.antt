-- Messages joined and parted.
pub mod Linkb
pub mod Unlinkb
pub mod TakenOut
