pub mod Refusals
pub mod Opening
pub mod Sections
pub mod Marks
pub mod Recalling
pub mod TakingBack
