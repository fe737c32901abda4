pub mod Builds
pub mod Bytes
pub mod Laws
