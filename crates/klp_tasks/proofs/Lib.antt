pub mod MemberLemmas
pub mod TaskLemmas
pub mod ListedLemmas
pub mod EffectLemmas
pub mod FrameLemmas
pub mod NumberLemmas
pub mod WalkLemmas
