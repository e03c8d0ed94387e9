pub mod Batching
pub mod Making
pub mod Shown
pub mod Lemmas
