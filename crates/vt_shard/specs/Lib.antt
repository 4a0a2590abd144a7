pub mod Looking
pub mod Search
pub mod Shard
pub mod Sound
pub mod View
pub mod Writeback
