-- The Gregorian calendar from 1970-01-01 on, and dates in ten characters.
pub mod Calendar
pub mod Text
pub mod Claims
pub mod Code
