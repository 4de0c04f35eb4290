pub mod HolderLemmas
