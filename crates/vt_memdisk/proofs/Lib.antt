pub mod Chosen
pub mod Combinations
pub mod Marks
pub mod Sectors
pub mod Settle
pub mod Writes
