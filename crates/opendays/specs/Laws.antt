-- What is proved of the definitions beside this folder, for proofs that stand on them.
pub mod Tally
pub mod Weeks
pub mod Nth
pub mod Listed
pub mod Years
pub mod Index
pub mod Stepped
pub mod Changed
pub mod Halving
pub mod Own
