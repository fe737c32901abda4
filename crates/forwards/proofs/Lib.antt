pub mod Forthing
