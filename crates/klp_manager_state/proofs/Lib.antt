pub mod StepLemmas
pub mod EffectLemmas
pub mod RowLemmas
pub mod UndoLemmas
pub mod InstalledLemmas
pub mod OpeningLemmas
pub mod PreviousLemmas
pub mod InsideLemmas
