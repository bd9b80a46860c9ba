-- The arguments behind the contracts: of sums and judgements, of the machine, and of the code that follows it.
pub mod Sums
pub mod Verdicts
pub mod Outcomes
pub mod Standing
pub mod Truth
pub mod Releases
pub mod Settling
pub mod Responding
mod Attempts
