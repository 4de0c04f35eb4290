pub mod Numbers
pub mod Rows
pub mod Parts
pub mod Tables
pub mod Faults
pub mod Whole
pub mod Looks
