pub mod Clumps
pub mod Faults
pub mod Laws
pub mod Spelling
