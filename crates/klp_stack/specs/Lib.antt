pub mod Stack
pub mod Undo
pub mod Changes
pub mod Pick
pub mod Spare
pub mod Pool
pub mod Linking
