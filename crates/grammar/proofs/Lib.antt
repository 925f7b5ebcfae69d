pub mod Fronts
pub mod Lists
pub mod Numbers
pub mod Readings
