pub mod AlikeLemmas
pub mod AmongLemmas
pub mod CourseLemmas
pub mod LaggingLemmas
pub mod StayLemmas
pub mod TellingLemmas
pub mod ShownLemmas
