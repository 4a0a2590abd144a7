pub mod Local
pub mod LocalLaws
pub mod Members
