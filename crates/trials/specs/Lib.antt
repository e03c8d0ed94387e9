pub mod Trials
pub mod Shown
