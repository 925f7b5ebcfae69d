-- The lemmas that the proofs share.
mod Decoded
mod Halves
mod Levels
mod Radicands
pub mod Rights
mod Scaling
mod Shifts
pub mod Sizes
mod Wholes
