-- The arguments behind the contracts of the distances.
mod Entries
pub mod Groups
pub mod Far
pub mod Walking
pub mod Telescoped
mod Joining
pub mod Releases
