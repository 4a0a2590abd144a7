pub mod Read
pub mod Session
pub mod SessionConf
pub mod SessionAt
pub mod Write
