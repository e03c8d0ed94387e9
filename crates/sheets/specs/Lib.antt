pub mod Tables
pub mod Reading
pub mod Surveying
pub mod Answers
