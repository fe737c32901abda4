-- What is proved of the definitions beside this folder, for proofs that stand on them.
pub mod Years
pub mod Months
pub mod Round
pub mod Made
pub mod Moves
pub mod Order
pub mod Weekdays
