pub mod Openers
pub mod Spans
