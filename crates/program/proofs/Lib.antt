-- The lemmas that the proofs share.
pub mod Facts
pub mod Limits
pub mod Live
pub mod Outcomes
pub mod Scans
pub mod Worked
pub mod Words
