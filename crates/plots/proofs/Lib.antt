pub mod Steps
pub mod Walk
pub mod Columns
pub mod Windows
pub mod Told
pub mod Bounds
