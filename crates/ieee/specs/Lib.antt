-- The definitions that the contracts cite.
pub mod Formats
pub mod Rounding
pub mod Operations
pub mod Laws
