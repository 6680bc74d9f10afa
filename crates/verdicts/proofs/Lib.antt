-- Laws of the own seat, of the bytes of a vote, and of the counts of misses.
pub mod Halting
pub mod VoteBytes
pub mod Misses
