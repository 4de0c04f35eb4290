use Rattle.std.proofs.Common.{◌≡◌, ◌+◌, ◌≤◌, drop}
use Rattle.std.specs.List.{count_by}
use Rattle.klp_story.specs.End.{is_holding}
use Rattle.klp_story.proofs.transition.holding.Given as goal

abbrev pub invariant-loop-stay : goal.invariant-loop-stay
invariant-loop-stay l = (l.count ≤ l.stay-index) × (l.count + count_by is_holding (drop l.stay-index l.fn.stays) ≡ count_by is_holding l.fn.stays)
