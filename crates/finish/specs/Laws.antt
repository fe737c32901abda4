-- What is proved of the definitions beside this folder, for proofs that stand on them.
pub mod Lending
pub mod Paying
