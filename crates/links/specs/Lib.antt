-- What the contracts of the links speak of.
pub mod Ranges
pub mod Linked
pub mod Chains
pub mod Forest
pub mod Rows
pub mod Joined
pub mod Join
pub mod Rings
pub mod Newest
pub mod Written
