pub mod File
pub mod Promise
pub mod Sums
pub mod Laws
pub mod Inner
