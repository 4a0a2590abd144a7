pub mod Exchanged
pub mod Members
pub mod Refused
pub mod Remote
