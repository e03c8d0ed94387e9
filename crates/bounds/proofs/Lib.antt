pub mod Ends
pub mod Fitting
pub mod Marking
pub mod Quotients
pub mod Rises
pub mod StairWalks
pub mod SameBound
pub mod Numbered
