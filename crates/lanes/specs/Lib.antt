-- The definitions that the contracts cite.
pub mod Agreement
pub mod Alone
pub mod Lanes
pub mod Together
