-- What is proved of the definitions beside this folder, for proofs that stand on them.
pub mod Span
pub mod Searched
pub mod Days
pub mod Twentieths
pub mod Each
pub mod Finished
pub mod Listed
pub mod Looped
pub mod Tenor
pub mod Roomless
pub mod FirstDate
pub mod Room
