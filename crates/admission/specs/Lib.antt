pub mod Replies
pub mod Books
pub mod Runs
pub mod Benches
pub mod Promises
