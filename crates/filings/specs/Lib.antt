pub mod Frames
pub mod Checks
pub mod Filings
pub mod Sheets
