-- Laws of dates: each has one number and one text.
pub mod Ranges
pub mod Rising
pub mod Dates
pub mod Formulas
pub mod Texts
pub mod Characters
