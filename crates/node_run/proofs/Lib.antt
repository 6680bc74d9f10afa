-- Laws of the buffers and of the turns.
pub mod Kept
pub mod Outcomes
pub mod Printing
