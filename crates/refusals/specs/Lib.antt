-- Refusal numbers (01: numbers of the table of no).
pub mod Refusals
