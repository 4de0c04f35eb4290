pub mod Complete
pub mod Installed
