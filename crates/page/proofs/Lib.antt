-- Laws of the page.
pub mod Places
pub mod ReadBack
pub mod Rows
