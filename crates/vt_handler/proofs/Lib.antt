pub mod Written
pub mod Taking
pub mod Items
pub mod Links
pub mod Doing
