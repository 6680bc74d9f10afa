-- The field of 256 elements.
pub mod Field
pub mod Tables
pub mod Claims
