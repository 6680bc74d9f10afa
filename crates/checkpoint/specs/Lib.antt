-- The checkpoint.
pub mod Layout
pub mod Format
pub mod Checkpoint
pub mod Code
pub mod Stored
pub mod Claims
pub mod Editions
