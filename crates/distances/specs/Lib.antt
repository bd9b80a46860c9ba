-- What the contracts of the distances speak of.
pub mod Sums
pub mod Distance
pub mod Kept
