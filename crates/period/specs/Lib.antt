pub mod Period
pub mod Laws
