-- What is proved of the definitions beside this folder, for proofs that stand on them.
pub mod Order
pub mod Third
pub mod Next
pub mod Named
pub mod Codes
pub mod Settled
