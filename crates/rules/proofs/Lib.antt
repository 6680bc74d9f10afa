-- Laws of the rules.
pub mod Passed
pub mod Notices
