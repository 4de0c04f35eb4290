pub mod Names
pub mod Kept
pub mod Undo
pub mod NamedSites
pub mod Tables
