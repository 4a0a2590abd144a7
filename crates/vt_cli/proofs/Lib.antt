pub mod Asking
pub mod Globals
