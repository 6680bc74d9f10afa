-- The round trips of an image, and the laws of the code that reads and writes it.
pub mod RoundTrips
pub mod OwnParts
