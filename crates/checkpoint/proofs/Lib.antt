-- Each state has one checkpoint and each checkpoint one state; the laws of the code that writes and reads it.
pub mod RoundTrips
pub mod Earlier
pub mod OldCheckpoints
pub mod Written
pub mod Fields
