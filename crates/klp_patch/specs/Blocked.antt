-- The versions that a task mustn't be inside of when it switches.
use Rattle.std.specs.Prelude.{ℕ, suc, ◌<◌, List, [], ◌∷◌, ◌++◌, IfSome}
use Rattle.std.specs.List.{All}
use Rattle.klp_types.specs.declared.limits.TheConstants.{MAX_FUNCTIONS}
use Rattle.klp_types.specs.declared.version.Version.{Version}
use Rattle.klp_types.specs.declared.version.Entry.{Entry}
use Rattle.klp_types.specs.declared.version.Transition.{Transition}
use Rattle.klp_model.specs.Blocked.{blocked_among}

-- the blocked versions at all of these sites, the first of which has the number `site`
abbrev pub blocked_at : ℕ → Transition → List (List Entry) → List Version
blocked_at site move [] = []
blocked_at site move (entries ∷ stacks) = blocked_among site move entries ++ blocked_at (suc site) move stacks

-- each entry that has a function has a number that a patch's functions can have
abbrev pub AreFunctions : List Entry → Type 0
AreFunctions entries = All (λ (e : Entry). IfSome e.func (λ f. f < MAX_FUNCTIONS)) entries
