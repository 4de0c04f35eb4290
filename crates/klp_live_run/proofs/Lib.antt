pub mod RaceLemmas
pub mod RunLemmas
pub mod ShownLemmas
pub mod StepLemmas
