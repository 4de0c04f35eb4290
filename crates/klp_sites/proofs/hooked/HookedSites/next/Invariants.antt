use Rattle.std.proofs.Common.{◌-◌, ◌≤◌}
use Rattle.klp_sites.proofs.HookedLemmas.{NoneSet}
use Rattle.klp_sites.proofs.hooked.HookedSites.next.Given as goal

abbrev pub invariant-loop-from : goal.invariant-loop-from
invariant-loop-from l = record { since : l.fn.from ≤ l.from; passed : NoneSet l.self.words l.fn.from l.from }

abbrev pub decreases-loop-from : goal.decreases-loop-from
decreases-loop-from l = 256 - l.from
