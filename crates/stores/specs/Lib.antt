pub mod Log
pub mod Stores
pub mod Sums
pub mod Packing
pub mod Texts
