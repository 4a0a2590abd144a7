pub mod Dialled
pub mod Members
pub mod Memory
pub mod Places
