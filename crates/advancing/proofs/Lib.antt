pub mod OpenDays
pub mod Cases
