-- What is proved of the definitions beside this folder, for proofs that stand on them.
pub mod Ascending
pub mod Entries
pub mod HowFar
pub mod Years
pub mod Cut
pub mod Runs
pub mod Over
pub mod Combined
pub mod OneRun
pub mod Merged
pub mod Lent
