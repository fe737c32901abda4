-- What is proved of generating, of the rows and of the bound on the candidates, for proofs that stand on it.
pub mod Generating
pub mod Rows
pub mod Bound
