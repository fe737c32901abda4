pub mod Laws
pub mod Promise
pub mod Counting
pub mod Ways
