pub mod Fractions
pub mod Reports
pub mod Formula
pub mod Promise
pub mod Sums
pub mod Laws
