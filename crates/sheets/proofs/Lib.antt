pub mod Once
pub mod Walks
pub mod Surveys
pub mod Filable
pub mod Leaves
pub mod Decide
pub mod Answered
