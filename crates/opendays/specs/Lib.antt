pub mod Count
pub mod Index
pub mod OpenDays
pub mod Sums
pub mod Inner
pub mod Laws
pub mod Promise
