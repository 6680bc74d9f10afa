-- The access page: the login list as text.
pub mod Layout
pub mod Line
pub mod Page
pub mod Claims
