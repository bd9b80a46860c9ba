-- The arguments behind the contracts: of lists of ranges, of a forest that grew by joins, and of the links' rows.
pub mod Linking
pub mod Chaining
pub mod Unique
pub mod Counts
pub mod History
pub mod Ties
pub mod Sets
pub mod Ways
mod Putting
pub mod Sound
pub mod Invariant
mod Tables
mod Joining
pub mod Making
mod Climbing
mod Crossed
pub mod Chained
pub mod Same
pub mod Labels
pub mod Paths
pub mod Lengths
