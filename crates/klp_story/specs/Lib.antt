pub mod End
pub mod Examples
pub mod Sentences
pub mod Words
