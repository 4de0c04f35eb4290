pub mod Elsewhere
pub mod Inside
pub mod Lagging
