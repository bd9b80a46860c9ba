pub mod Ordered
pub mod Pairs
