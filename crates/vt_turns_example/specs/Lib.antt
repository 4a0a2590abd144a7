pub mod Blocks
pub mod Keys
pub mod Laws
pub mod Parts
pub mod Stores
pub mod Talk
pub mod Work
pub mod Workers
