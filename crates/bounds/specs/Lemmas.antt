-- What the laws of the supplied bounds are proved from. The source answers the laws, and it may cite
-- what stands in specs alone: so these proofs stand here, below the definitions.
pub mod Instants
pub mod Asking
pub mod Corners
pub mod ExactLaws
pub mod Lines
pub mod TailLaws
pub mod Quotients
pub mod Grains
pub mod Stairs
pub mod StairCounts
pub mod StairLaws
pub mod SuppliedLaws
