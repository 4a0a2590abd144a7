pub mod Calls
pub mod Failing
pub mod FilesRead
pub mod Items
pub mod Reading
pub mod Shown
pub mod Tops
