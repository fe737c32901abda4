pub mod Tags
pub mod Format
pub mod Laws
pub mod Encode
pub mod Inner
pub mod Decode
pub mod Stored
pub mod Sums
