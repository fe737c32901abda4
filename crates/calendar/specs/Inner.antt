-- Terms of promises between our own functions: no customer meets them.
pub mod Near
pub mod Places
pub mod Always
pub mod Reach
