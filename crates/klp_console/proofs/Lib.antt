pub mod SaidLemmas
pub mod SentLemmas
pub mod BackLemmas
pub mod AheadLemmas
pub mod HearLemmas
pub mod WithdrawnLemmas
pub mod ServeLemmas
mod LineLemmas
mod AlikeLemmas
pub mod AnswerExamples
pub mod OutcomeLemmas
