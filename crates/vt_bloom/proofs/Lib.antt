pub mod Frames
pub mod Marks
pub mod Powers
pub mod RefusesMount
pub mod Saves
