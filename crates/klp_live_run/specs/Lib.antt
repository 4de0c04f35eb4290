pub mod Living
pub mod Racing
pub mod Reading
pub mod Shown
pub mod Steps
