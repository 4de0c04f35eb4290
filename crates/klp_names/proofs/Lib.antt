pub mod SearchLemmas
pub mod TextLemmas
