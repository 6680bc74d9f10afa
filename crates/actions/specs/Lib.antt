-- What an announcement does to a state.
pub mod Perform
pub mod Code
pub mod Claims
pub mod Evictions
