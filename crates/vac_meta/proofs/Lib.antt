pub mod Flawless
pub mod Fronts
pub mod Refused
pub mod Spelled
pub mod Strings
pub mod Written
