pub mod TakenLemmas
pub mod TaskLemmas
pub mod ShadowLemmas
pub mod LoggedLemmas
