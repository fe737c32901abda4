pub mod Putting
pub mod Runs
pub mod Whole
