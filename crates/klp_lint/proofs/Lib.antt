pub mod ActingLemmas
pub mod ApartLemmas
pub mod BehindLemmas
pub mod FailsLemmas
pub mod JudgedLemmas
pub mod PlanLemmas
pub mod ThereLemmas
pub mod UndoneLemmas
