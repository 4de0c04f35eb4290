pub mod ImpossibleLemmas
