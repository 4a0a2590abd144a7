pub mod Calling
pub mod Exchanging
pub mod Refusing
