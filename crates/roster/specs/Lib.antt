-- Rosters: comma-separated files, and the grants that they stand for.
pub mod Csv
pub mod Fields
pub mod Roster
pub mod Calls
pub mod Written
pub mod Claims
pub mod Code
