-- Sets of bands, stored as the bits of four words.
pub mod Used
pub mod Bands
