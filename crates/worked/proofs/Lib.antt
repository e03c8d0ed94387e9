pub mod Calls
pub mod ByHand
