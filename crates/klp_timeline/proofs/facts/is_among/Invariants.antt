use Rattle.std.proofs.Common.{◌≡◌, drop}
use Rattle.std.specs.Prelude.{◌==◌}
use Rattle.std.specs.List.{list_any}
use Rattle.klp_timeline.proofs.facts.is_among.Given as goal

abbrev pub invariant-loop-other : goal.invariant-loop-other
invariant-loop-other l = list_any (λ other. other == l.fn.patch) (drop l.other-index l.fn.patches) ≡ list_any (λ other. other == l.fn.patch) l.fn.patches
