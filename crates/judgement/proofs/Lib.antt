-- The arguments behind the judgement and the chain of a refusal.
mod Turns
mod Across
mod Judged
mod Crossing
mod Refused
