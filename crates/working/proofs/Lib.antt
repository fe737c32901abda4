pub mod Puts
pub mod Counting
pub mod Turns
pub mod Walking
pub mod Additions
