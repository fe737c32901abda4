pub mod Ways
pub mod Passes
