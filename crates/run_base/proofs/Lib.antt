pub mod Causes
pub mod InMemory
pub mod NameAt
pub mod OpenCauses
pub mod Puts
pub mod SaidBefore
pub mod StoreCauses
pub mod WholeFile
