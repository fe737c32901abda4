-- What is proved of the definitions beside this folder, for proofs that stand on them.
pub mod Straight
pub mod Chain
pub mod Turns
pub mod Ended
pub mod Falling
pub mod Count
pub mod Units
pub mod Finished
pub mod Tenor
pub mod Walked
pub mod Checks
pub mod Mosts
