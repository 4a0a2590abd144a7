pub mod Flaws
pub mod Found
pub mod Records
