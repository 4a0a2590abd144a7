pub mod Heard
pub mod Turns
pub mod Answered
pub mod Talk
pub mod Hearing
pub mod Parsed
pub mod Talking
pub mod Talker
