-- The tables of proposals and of logins.
pub mod Proposals
pub mod Logins
pub mod Code
pub mod Claims
