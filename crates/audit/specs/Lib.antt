-- Lists of calls on one ledger, and the laws of every such list.
pub mod Runs
pub mod Readings
pub mod Laws
pub mod Facts
pub mod Course
pub mod Cases
