-- The image of a node.
pub mod Layout
pub mod Image
pub mod Claims
