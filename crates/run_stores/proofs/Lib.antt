pub mod FormatCauses
pub mod IndexCauses
pub mod UpkeepCauses
