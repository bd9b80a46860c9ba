-- The arguments behind the laws of lists of calls.
mod Potentials
mod Standing
mod Laws
mod Drawn
mod Facts
mod Counting
mod Cases
mod Courses
