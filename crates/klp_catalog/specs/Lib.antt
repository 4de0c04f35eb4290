pub mod Catalog
pub mod States
pub mod Limits
pub mod Runs
pub mod Assembled
pub mod Stored
pub mod Counts
pub mod Patch
