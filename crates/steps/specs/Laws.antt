-- What is proved of the definitions beside this folder, for proofs that stand on them.
pub mod Rules
pub mod Rows
pub mod Table
pub mod Parts
pub mod Counts
pub mod Tries
pub mod Grows
pub mod Entries
pub mod Farthest
pub mod ShortEnd
