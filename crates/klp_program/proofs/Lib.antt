pub mod AskedLemmas
pub mod ServeLemmas
pub mod WatchLemmas
pub mod WordLemmas
