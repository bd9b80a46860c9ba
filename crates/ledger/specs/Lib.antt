pub mod Rules
pub mod Judgement
pub mod Answers
pub mod Machine
pub mod Truth
pub mod State
pub mod Tries
