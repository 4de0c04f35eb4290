pub mod Split
pub mod Words
pub mod Steps
pub mod Seconds
