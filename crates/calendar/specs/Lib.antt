pub mod Open
pub mod Laws
pub mod Inner
pub mod AnyCalendar
pub mod Adjust
pub mod Calendar
pub mod Moves
pub mod Sums
