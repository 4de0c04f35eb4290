pub mod SameLemmas
pub mod MarkLemmas
pub mod EndLemmas
