pub mod Text
pub mod Put
pub mod Laws
pub mod Samples
