pub mod MountErrors
