pub mod SplitLemmas
pub mod WordLemmas
pub mod NumberLemmas
pub mod ValueLemmas
pub mod ValueExamples
pub mod LaneLemmas
