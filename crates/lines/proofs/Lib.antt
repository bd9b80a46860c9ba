pub mod Placing
pub mod Lengths
pub mod ReadingBack
