pub mod Working
pub mod Requests
pub mod Answers
pub mod Ending
pub mod Driven
