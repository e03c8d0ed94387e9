pub mod Bytes
pub mod Headings
pub mod Judging
pub mod Entries
pub mod Contents
pub mod Fields
