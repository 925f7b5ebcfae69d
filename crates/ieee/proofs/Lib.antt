-- The lemmas that the proofs share.
pub mod Closest
pub mod FloorLaws
pub mod FormatLaws
mod LevelLaws
pub mod Levels
pub mod Library
mod NearestLaws
pub mod Numbers
pub mod OperationLaws
mod RoundingLaws
pub mod Roots
pub mod Scaled
pub mod Steps
pub mod Whole
