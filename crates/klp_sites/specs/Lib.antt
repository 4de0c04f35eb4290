pub mod Table
pub mod Undo
pub mod Changes
pub mod Hooked
