-- Laws of the folds and tables, and what `search` is handed.
pub mod Cases
pub mod Tests
pub mod Options
pub mod Every
pub mod Firsts
pub mod Least
pub mod Members
pub mod Tables
pub mod TableMembers
pub mod TableCounts
pub mod Fronts
pub mod Count
pub mod Library
pub mod Loops
