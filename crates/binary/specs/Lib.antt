-- Bytes, little-endian numbers, and formats of a fixed width.
pub mod Number
pub mod Codec
pub mod Splice
