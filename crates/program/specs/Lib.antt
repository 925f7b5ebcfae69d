-- The definitions that the contracts cite.
pub mod Bodies
pub mod Cases
pub mod Faults
pub mod Limits
pub mod Outcome
pub mod Rules
pub mod Scans
pub mod Words
