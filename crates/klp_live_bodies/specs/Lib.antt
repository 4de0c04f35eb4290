pub mod Receipts
pub mod Steps
pub mod Running
pub mod Jobs
