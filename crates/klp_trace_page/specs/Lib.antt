pub mod Rules
pub mod Traced
pub mod Pages
pub mod RunSentences
