-- Demand 3, proved.
pub mod Chain
pub mod Calls
pub mod Steps
pub mod Demand
pub mod Prefix
pub mod NotIdle
