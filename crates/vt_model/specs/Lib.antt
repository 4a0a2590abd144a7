pub mod History
pub mod Places
pub mod Legal
pub mod Answer
pub mod Causes
pub mod Plain
pub mod Stored
pub mod Verdict
