pub mod Archivable
pub mod InOrder
pub mod Metadata
pub mod Names
pub mod OneTree
pub mod ReadsBack
mod Rows
pub mod Stands
