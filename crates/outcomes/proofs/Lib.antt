pub mod Laws
pub mod Grid
pub mod Refusals
pub mod Uneven
pub mod RustStep
