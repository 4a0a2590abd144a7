pub mod Layouts
pub mod Names
pub mod Namesakes
pub mod TableFor
pub mod Tables
