pub mod Speeds
pub mod Bracketing
pub mod Counting
pub mod Slower
pub mod Responses
