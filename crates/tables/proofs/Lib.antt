-- Laws of the tables.
pub mod LoginTable
pub mod Added
pub mod FoundLogins
pub mod Earliest
pub mod LeftRows
pub mod TableFacts
pub mod Lapse
