pub mod EntryLemmas
pub mod StackLemmas
pub mod ChainLemmas
pub mod PoolLemmas
pub mod LinkLemmas
pub mod StepLemmas
pub mod ChangeLemmas
pub mod OpeningLemmas
