pub mod Building
pub mod Filling
pub mod Gathering
pub mod Heads
pub mod Rebuilt
pub mod Walking
