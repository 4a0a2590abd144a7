pub mod Faults
pub mod Laws
pub mod Layout
pub mod Parts
pub mod Table
