pub mod Names
pub mod Opening
pub mod Taking
pub mod TakingAll
