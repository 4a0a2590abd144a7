pub mod Awaited
pub mod Fields
pub mod Frames
pub mod Lines
pub mod Messages
pub mod Refusals
pub mod Rules
pub mod Views
