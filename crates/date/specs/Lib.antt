pub mod Civil
pub mod Date
pub mod Laws
pub mod Sums
