-- Laws of refusal numbers.
pub mod Chains
pub mod UpTo
pub mod Table
