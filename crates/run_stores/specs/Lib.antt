pub mod Buildindex
pub mod Checkarenas
pub mod Words
pub mod Fmtarenas
pub mod Fmtbloom
pub mod Fmtindex
pub mod Fmtisect
pub mod Rehearse
