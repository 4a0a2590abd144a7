pub mod Devices
pub mod Formatted
pub mod Indexed
pub mod Partition
pub mod Sections
pub mod Shape
pub mod Store
