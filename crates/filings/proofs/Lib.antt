pub mod Multiples
pub mod CommonFrames
pub mod Order
pub mod Named
pub mod Counted
pub mod Written
pub mod Filed
