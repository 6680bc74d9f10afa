-- The computed checks.
pub mod Compute
pub mod Examples
pub mod TableOfNo
pub mod Lapse
pub mod Restarts
pub mod Notices
pub mod Evictions
pub mod Doors
pub mod AccessPage
pub mod Roster
pub mod PartialKeys
pub mod Renewals
