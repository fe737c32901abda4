pub mod First
pub mod Opening
