-- What is known in the examples.
use Rattle.std.specs.Prelude.{ℕ, List, [], ◌∷◌, codes}
use Rattle.klp_names.specs.declared.timed.Timed.{Timed}
use Rattle.klp_names.specs.Named.{Named}
use Rattle.klp_names.specs.Names.{Names}

abbrev called : List ℕ → Named
called name = record { task = 2; name = name }

abbrev time : ℕ → ℕ → Timed
time line at = record { line = line; at = at }

-- what task 2 is called, and when lines 7 and 13 were
abbrev pub seen : Names
seen = record { named = called (codes "indexer[92]") ∷ []; timed = time 7 1500000 ∷ time 13 16600000 ∷ [] }

-- a name that is to be taken for markup
abbrev pub hostile : Names
hostile = record { named = called (codes "<script>alert(1)</script>") ∷ []; timed = [] }
