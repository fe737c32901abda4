-- What is proved of the definitions beside this folder, for proofs that stand on them.
pub mod Straight
pub mod Counted
