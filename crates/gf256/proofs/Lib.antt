-- The laws of the field.
pub mod Xor
pub mod Products
pub mod Entries
pub mod Laws
pub mod Fields
