-- The calls by value.
pub mod StartAnswer
pub mod DeliverAnswer
pub mod QueryAnswer
pub mod CheckpointAnswer
pub mod PageAnswer
pub mod Reply
pub mod Replies
pub mod Answers
pub mod Deliver
pub mod Query
pub mod Start
pub mod Checkpoint
pub mod Page
pub mod WellFormed
pub mod Claims
pub mod Applies
