pub mod FaithfulLemmas
pub mod OverLemmas
pub mod RecordLemmas
pub mod RowLemmas
pub mod StayLemmas
pub mod ViewLemmas
