pub mod Cutting
pub mod FolderChanges
pub mod Listing
pub mod Moving
pub mod Owning
pub mod ToldDisks
pub mod ToldFiles
