-- The own part, the counts of misses, and the lowest number of the table of no for each call on a state and an own part.
pub mod Own
pub mod Attempts
pub mod Verdicts
