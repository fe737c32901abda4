-- Terms of promises between our own functions: no customer meets them.
pub mod Framed
pub mod Calls
pub mod Turns
