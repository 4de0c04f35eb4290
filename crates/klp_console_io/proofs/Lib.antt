pub mod LineLemmas
pub mod SaysLemmas
pub mod WriteLemmas
pub mod TextLemmas
