pub mod Laws
pub mod Years
pub mod Dates
pub mod OpenDays
pub mod Cases
pub mod Needed
