-- What is proved of demand 3, of forward builds and of both directions, for proofs that stand on it.
pub mod Rising
pub mod Mirror
pub mod Added
pub mod Onward
pub mod Proved
pub mod ForwardProved
pub mod Lifted
pub mod Memory
pub mod Settled
pub mod Shape
pub mod MostOn
pub mod Formula
pub mod AgreeProved
pub mod AgreeMemory
