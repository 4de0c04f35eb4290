pub mod Compared
pub mod ComparedWhole
pub mod Inside
pub mod Refused
pub mod Watching
pub mod Whole
