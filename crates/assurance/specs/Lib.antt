-- What an owner can rely on, beyond demand 3.
pub mod Refusals
pub mod Doors
pub mod Interference
pub mod Progress
pub mod Tight
pub mod Earned
pub mod Notice
pub mod Lapse
pub mod Provenance
pub mod Evictions
pub mod Lives
pub mod Restarts
pub mod Settings
pub mod Removed
pub mod AccessPage
