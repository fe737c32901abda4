pub mod Counting
pub mod Naming
pub mod Laying
