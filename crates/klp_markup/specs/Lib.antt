pub mod Adds
pub mod Called
pub mod Characters
pub mod Escaped
pub mod Names
pub mod Tasks
pub mod Times
