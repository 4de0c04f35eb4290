pub mod HookedLemmas
pub mod StepLemmas
pub mod TableLemmas
pub mod ExactLemmas
