pub mod Booted
pub mod Kinds
pub mod Over
