pub mod Advances
pub mod Changes
pub mod EndsFormat
pub mod Places
pub mod Selectors
pub mod Sound
pub mod Steps
