pub mod CalmLemmas
pub mod VerdictLemmas
