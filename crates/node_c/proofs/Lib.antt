-- What a call for C returns.
pub mod Calls
pub mod AnswerNumbers
pub mod Kept
pub mod Shares
