-- Numbers in decimal.
pub mod Decimal
pub mod Claims
pub mod Code
