-- Terms of promises between our own functions: no customer meets them.
pub mod Same
pub mod Sure
