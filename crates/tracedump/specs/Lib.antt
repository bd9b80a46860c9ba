pub mod Compare
pub mod Names
