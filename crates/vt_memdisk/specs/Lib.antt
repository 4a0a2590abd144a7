pub mod Cells
pub mod Crashes
pub mod Memory
pub mod Sectors
pub mod Writes
