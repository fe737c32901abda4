pub mod Weeks
pub mod Places
pub mod Passing
pub mod Ranks
pub mod Filling
pub mod Moving
