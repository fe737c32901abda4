-- What is proved of the definitions beside this folder, for proofs that stand on them.
pub mod Guards
pub mod AdvanceMoves
pub mod Conventions
pub mod HowFar
pub mod Kept
pub mod Mask
pub mod Moved
pub mod Search
pub mod Stays
pub mod Told
