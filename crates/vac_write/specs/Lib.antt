pub mod Archiving
pub mod Files
pub mod Listing
pub mod Puts
pub mod Sources
pub mod Tried
pub mod Walking
