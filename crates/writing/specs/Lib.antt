pub mod Checks
pub mod States
pub mod Filing
pub mod Closing
pub mod Whole
