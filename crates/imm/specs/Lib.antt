pub mod Imm
pub mod Sums
pub mod Laws
