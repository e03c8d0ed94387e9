pub mod Thinning
pub mod Pictures
pub mod Scales
pub mod Escaping
pub mod Drawn
