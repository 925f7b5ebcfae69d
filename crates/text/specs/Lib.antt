pub mod Faults
pub mod Lines
pub mod Outcome
pub mod Passes
pub mod Plain
pub mod Table
pub mod Words
