-- Folds over lists.
pub mod Fold
pub mod Table
pub mod Code
