pub mod LineLemmas
pub mod ModuleLemmas
pub mod ReadyLemmas
pub mod TruthLemmas
pub mod ListedLemmas
pub mod ScriptLemmas
pub mod WholeLemmas
