pub mod EntryLemmas
pub mod TextLemmas
pub mod SiteLemmas
pub mod PaddedLemmas
pub mod KeyLemmas
pub mod ScriptLemmas
pub mod UndoesLemmas
pub mod FindsLemmas
