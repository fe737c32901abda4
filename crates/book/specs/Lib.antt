pub mod Framing
pub mod Book
pub mod Places
pub mod Inner
pub mod Laws
pub mod Sums
