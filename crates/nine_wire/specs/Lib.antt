pub mod Frames
pub mod Messages
pub mod Names
pub mod Refusals
pub mod Views
pub mod Writing
