-- Partial keys: Shamir's scheme, byte by byte.
pub mod Polynomial
pub mod Shares
pub mod Calls
pub mod Claims
pub mod Renewal
pub mod Code
