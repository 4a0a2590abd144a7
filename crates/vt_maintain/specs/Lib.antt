pub mod Checking
pub mod Devices
pub mod Opened
pub mod Rebuilding
pub mod Stores
