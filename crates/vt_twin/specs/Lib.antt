pub mod Calls
pub mod Formatting
pub mod Frames
pub mod Sound
pub mod Twin
