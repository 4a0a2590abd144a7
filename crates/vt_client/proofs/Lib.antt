pub mod Asking
pub mod Beginning
pub mod Frames
pub mod Lines
pub mod Moving
pub mod Replies
pub mod Storing
