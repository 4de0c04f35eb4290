mod EscapedLemmas
pub mod AddsLemmas
pub mod CalledLemmas
pub mod TasksLemmas
