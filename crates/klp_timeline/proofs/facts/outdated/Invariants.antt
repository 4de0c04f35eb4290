use Rattle.std.proofs.Common.{◌≡◌, ◌+◌, ◌≤◌, drop}
use Rattle.std.specs.List.{count_by}
use Rattle.klp_timeline.specs.Facts.{is_outdated}
use Rattle.klp_timeline.proofs.facts.outdated.Given as goal

abbrev pub invariant-loop-stay : goal.invariant-loop-stay
invariant-loop-stay l = (l.count ≤ l.stay-index) × (l.count + count_by is_outdated (drop l.stay-index l.fn.stays) ≡ count_by is_outdated l.fn.stays)
