pub mod Skipped
pub mod Vac
pub mod Viewed
pub mod Vacfs
pub mod Watched
