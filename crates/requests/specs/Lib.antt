-- What node-run prints for its input.
pub mod Framing
pub mod Requests
pub mod Lines
pub mod Run
pub mod Claims
