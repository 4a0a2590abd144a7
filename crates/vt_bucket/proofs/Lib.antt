pub mod Cells
pub mod Entries
pub mod Frames
pub mod Keys
