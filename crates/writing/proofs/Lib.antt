pub mod Written
pub mod Numbers
pub mod Entries
pub mod Turns
pub mod Filed
pub mod Leaves
