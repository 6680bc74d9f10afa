-- Laws of the rows of a state and of its quorum.
pub mod SeatLaws
pub mod MinimaRanges
pub mod ProposalRows
pub mod Facts
pub mod TrusteeMasks
