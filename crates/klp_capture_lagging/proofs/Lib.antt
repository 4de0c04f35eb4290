pub mod InsideLemmas
pub mod LaggingLemmas
