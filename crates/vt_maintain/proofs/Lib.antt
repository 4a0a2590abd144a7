pub mod Backs
pub mod Kept
pub mod NamesTwo
pub mod OnStores
pub mod Rebuilt
pub mod Scores
