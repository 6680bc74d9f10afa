-- The replicated state (01: the synchronised state), in the order of "What a node holds".
pub mod Limits
pub mod Kinds
pub mod Time
pub mod Minima
pub mod Seats
pub mod Trustees
pub mod Subjects
pub mod Rows
pub mod Update
pub mod WellFormed
pub mod Claims
