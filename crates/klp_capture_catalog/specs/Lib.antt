pub mod Newer
pub mod Rows
