pub mod Desk
pub mod Runs
pub mod Laws
pub mod Sums
