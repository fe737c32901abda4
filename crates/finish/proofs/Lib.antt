pub mod Moves
pub mod Pays
pub mod Merging
pub mod Copying
pub mod Ending
pub mod Far
