-- The calls for C.
pub mod Calls
pub mod Claims
