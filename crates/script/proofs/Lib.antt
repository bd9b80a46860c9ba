-- The arguments behind a script's run.
mod Putting
mod Modesty
mod Trials
