pub mod Answering
pub mod Surveyed
