-- "The table of no", rules 4 to 14.
pub mod Rules
pub mod Code
