pub mod Names
pub mod Matrix
pub mod Changes
pub mod Outcomes
