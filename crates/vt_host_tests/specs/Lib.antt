pub mod Kept
pub mod Still
