pub mod Digits
pub mod NumberOf
