pub mod TableLemmas
pub mod FaultLemmas
pub mod CountedLemmas
pub mod KpatchLemmas
