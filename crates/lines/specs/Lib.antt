pub mod Digits
pub mod Text
pub mod Words
pub mod Lines
pub mod Fits
