-- The definitions that the contracts cite.
pub mod Laws
pub mod Rules
pub mod Patterns
