pub mod Bits
pub mod Bloom
pub mod Faults
pub mod Frame
pub mod Laws
pub mod Size
pub mod States
