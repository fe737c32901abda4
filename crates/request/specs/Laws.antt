-- What is proved of the definitions beside this folder, for proofs that stand on them.
pub mod Picks
pub mod Round
pub mod There
pub mod Promise
pub mod Held
