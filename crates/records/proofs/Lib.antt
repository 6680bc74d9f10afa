-- What reading a record tells, what a count of seats tells, and that what is written is read back.
pub mod Ranges
pub mod QueryKinds
pub mod Bits
pub mod Counts
pub mod SheetRows
pub mod SheetsBack
pub mod AnnouncementsBack
