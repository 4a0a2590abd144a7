pub mod Calls
pub mod DeviceCalls
pub mod Disk
pub mod Members
pub mod Region
