pub mod Ends
pub mod Moving
pub mod Paying
pub mod Following
pub mod Finishing
pub mod Laws
