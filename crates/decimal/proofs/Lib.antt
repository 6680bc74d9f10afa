-- Laws of digits.
pub mod Stored
pub mod Texts
pub mod Scanned
