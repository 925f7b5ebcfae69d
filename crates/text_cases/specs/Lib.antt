pub mod Answers
pub mod Lines
pub mod Passes
pub mod Places
