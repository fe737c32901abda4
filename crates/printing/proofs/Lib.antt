pub mod Putting
pub mod Digits
pub mod Ways
pub mod Laying
pub mod Whole
