use Rattle.std.proofs.Common.{◌≡◌, ◌++◌, take, drop}
use Rattle.klp_catalog.specs.Stored.{newest_naming}
use Rattle.klp_catalog.specs.States.{installed_before}
use Rattle.klp_catalog.proofs.patch.previous_state.Given as goal

-- the patches so far are before this one, and the newest of them that names the state is known
abbrev pub invariant-loop-other : goal.invariant-loop-other
invariant-loop-other l = record {
  newest : l.newest ≡ newest_naming l.patches l.id (take l.other-index l.installed);
  before : installed_before l.patch l.installed ≡ take l.other-index l.installed ++ installed_before l.patch (drop l.other-index l.installed);
}
