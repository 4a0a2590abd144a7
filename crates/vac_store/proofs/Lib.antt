pub mod Into
pub mod Kept
pub mod Last
pub mod Leaving
pub mod Maps
pub mod Sending
pub mod Unfit
pub mod Written
