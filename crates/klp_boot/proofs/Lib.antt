pub mod BootedLemmas
pub mod BoxLemmas
pub mod OverLemmas
