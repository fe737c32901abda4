pub mod Answers
pub mod Indexes
pub mod Numbers
pub mod Requests
pub mod Names
pub mod Years
pub mod Laws
pub mod Sums
