pub mod Deciding
pub mod Sound
pub mod Saying
pub mod Standing
pub mod Claims
pub mod Marking
pub mod Targets
pub mod Listed
