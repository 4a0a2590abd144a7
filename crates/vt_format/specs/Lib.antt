pub mod Arenas
pub mod Filters
pub mod Index
pub mod Opening
pub mod Sections
pub mod Usage
pub mod Words
pub mod Worked
