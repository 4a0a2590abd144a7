pub mod Archives
pub mod Good
pub mod Kept
pub mod Laws
pub mod Limits
pub mod Trees
