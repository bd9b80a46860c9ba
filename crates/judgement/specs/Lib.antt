-- What the contracts of a judgement speak of.
pub mod Judgement
pub mod Search
pub mod Refusal
