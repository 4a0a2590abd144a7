pub mod Sent
pub mod Storing
pub mod Stored
pub mod Truthful
