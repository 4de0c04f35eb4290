pub mod Names
pub mod Answers
pub mod Items
pub mod Traces
