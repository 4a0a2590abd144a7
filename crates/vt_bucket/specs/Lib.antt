pub mod Buckets
pub mod Faults
pub mod Frame
pub mod Laws
pub mod Order
