pub mod Clients
pub mod Exchanges
pub mod Greetings
pub mod Members
pub mod Stores
pub mod Taking
