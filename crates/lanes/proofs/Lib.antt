-- The lemmas that the proofs share.
pub mod Ends
pub mod Lockstep
pub mod Potential
mod Ranges
pub mod Simulation
pub mod Single
mod Sorts
