pub mod Verdict
pub mod Impossible
