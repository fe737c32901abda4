pub mod Cut
pub mod Run
pub mod Eat
pub mod Field
pub mod Bodies
pub mod Whole
pub mod Finish
pub mod Rule
