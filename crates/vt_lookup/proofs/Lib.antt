pub mod Fetching
pub mod Seeks
pub mod Testing
pub mod TestWork
pub mod Adding
