-- One park, one list.
pub mod History
pub mod Claims
pub mod Chain
pub mod NotIdle
