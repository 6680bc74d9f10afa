-- What a performed announcement leaves, and what the rules ask for before one is.
pub mod Parts
pub mod FittingRows
pub mod Sound
pub mod Kept
pub mod Performed
pub mod Admits
pub mod Notified
pub mod Evictions
