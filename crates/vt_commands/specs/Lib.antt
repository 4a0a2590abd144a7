pub mod Answers
pub mod HandedIn
pub mod Run
pub mod Seen
pub mod Work
