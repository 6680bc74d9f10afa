-- Laws of the numbers and of the formats: what is written is read back, and what is read is written back.
pub mod Number
pub mod Codec
pub mod Library
pub mod Splices
pub mod Rows
pub mod Copies
pub mod Frames
pub mod Slices
pub mod Zeros
pub mod Same
