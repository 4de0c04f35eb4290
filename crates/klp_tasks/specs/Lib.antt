pub mod Changes
pub mod Members
pub mod Numbers
