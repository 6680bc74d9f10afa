-- The fourteen marked examples, and the examples of the table of no.
pub mod Records
pub mod Examples
pub mod TableOfNo
pub mod Lapse
pub mod Restarts
pub mod Notices
pub mod Evictions
pub mod Doors
pub mod AccessPage
pub mod Roster
pub mod PartialKeys
pub mod Renewals
