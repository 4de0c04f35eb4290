pub mod LineLemmas
pub mod FrameLemmas
pub mod TraceLemmas
pub mod AnswerLemmas
pub mod ReadExamples
