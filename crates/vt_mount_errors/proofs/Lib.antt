pub mod LogRefused
pub mod NamesTwo
pub mod Partitions
