pub mod CompleteConf
pub mod Stored
pub mod Answered
pub mod Complete
pub mod DidTells
pub mod Only
pub mod Seen
