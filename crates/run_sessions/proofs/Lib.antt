pub mod Scored
pub mod BlockCauses
pub mod MemorySessions
pub mod SessionCauses
