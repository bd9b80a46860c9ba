pub mod Records
pub mod Adding
pub mod Overwrites
pub mod Repacks
pub mod Listing
