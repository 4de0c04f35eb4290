pub mod SaidLemmas
pub mod SayLemmas
pub mod ClaimLemmas
pub mod MarkLemmas
mod SetLemmas
pub mod ListedLemmas
