pub mod Acting
pub mod Apart
pub mod Behind
pub mod Premises
pub mod Scripts
pub mod Undone
