-- What is proved of the definitions beside this folder.
pub mod Framing
pub mod Counts
pub mod Within
pub mod Turns
pub mod Joined
pub mod InPlace
pub mod Alone
pub mod Split
pub mod Demand
