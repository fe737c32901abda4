pub mod Bodies
pub mod Feed
pub mod Inner
pub mod Parts
pub mod Sums
pub mod Laws
