pub mod Members
pub mod Viewing
pub mod Stored
pub mod Remote
pub mod Items
