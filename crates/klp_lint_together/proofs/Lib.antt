pub mod KeptLemmas
pub mod StartLemmas
pub mod BehindLemmas
