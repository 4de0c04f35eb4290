use Rattle.std.proofs.Common.{◌≡◌, ◌+◌, ◌≤◌, drop}
use Rattle.std.specs.List.{count_by}
use Rattle.std.specs.Prelude.{is_some}
use Rattle.klp_story.proofs.end.sleeping.Given as goal

abbrev pub invariant-loop-stay : goal.invariant-loop-stay
invariant-loop-stay l = (l.count ≤ l.stay-index) × (l.count + count_by is_some (drop l.stay-index l.fn.stays) ≡ count_by is_some l.fn.stays)
