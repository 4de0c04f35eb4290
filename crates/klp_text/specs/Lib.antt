pub mod EntrySite
pub mod TextImage
pub mod Faults
pub mod Kept
