-- What is proved of the definitions beside this folder, for proofs that stand on them.
pub mod Span
pub mod Order
pub mod Thirty
pub mod Zero
pub mod Parts
pub mod Floats
pub mod Ends
pub mod Reports
