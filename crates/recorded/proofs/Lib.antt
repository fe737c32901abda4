pub mod Recording
pub mod Reading
