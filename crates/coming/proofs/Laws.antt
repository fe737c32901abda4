-- What is proved of the lists that the answers are read from.
pub mod Backwards
pub mod Forwards
