pub mod EventRowLemmas
pub mod TracePageLemmas
pub mod TracedLemmas
