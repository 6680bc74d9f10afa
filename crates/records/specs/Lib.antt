-- The records, in the order of "Records".
pub mod Layout
pub mod Actions
pub mod Announcement
pub mod Sheet
pub mod StartQuery
pub mod Code
pub mod Claims
