pub mod Worlds
pub mod Whole
