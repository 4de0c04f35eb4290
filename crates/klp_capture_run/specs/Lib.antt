pub mod Explained
pub mod Holders
