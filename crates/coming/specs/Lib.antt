pub mod Coming
pub mod Shows
pub mod Promise
pub mod Laws
pub mod Answers
pub mod Inner
