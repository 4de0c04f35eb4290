pub mod TransitionLemmas
