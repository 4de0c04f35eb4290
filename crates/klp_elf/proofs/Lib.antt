pub mod LengthLemmas
pub mod ZeroLemmas
