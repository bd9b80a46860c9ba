-- What is printed of the calls of a script.
pub mod Session
pub mod Printed
