pub mod Refusals
pub mod Marks
pub mod Said
