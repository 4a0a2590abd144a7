pub mod NamedInMemory
pub mod Parts
