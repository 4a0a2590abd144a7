pub mod Condition
pub mod Members
pub mod Serving
pub mod Taking
pub mod Writing
pub mod Sessions
pub mod Clients
pub mod Links
