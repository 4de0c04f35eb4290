pub mod Course
pub mod Facts
pub mod Lagging
pub mod Sentences
pub mod Stays
pub mod Still
pub mod Telling
pub mod Shown
