pub mod Cuts
pub mod Holding
pub mod Answering
pub mod Talks
pub mod Joins
