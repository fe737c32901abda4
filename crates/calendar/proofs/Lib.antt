pub mod Checks
pub mod Places
pub mod Members
pub mod Days
pub mod OneMonth
pub mod Ways
pub mod Moving
