-- Laws of frames and of lines.
pub mod Frames
pub mod Writing
pub mod Outcomes
pub mod Extents
pub mod Following
pub mod Held
pub mod Sessions
