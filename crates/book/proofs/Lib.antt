pub mod Framings
pub mod Calling
pub mod Turning
pub mod Booking
