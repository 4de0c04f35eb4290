use Rattle.klp_model.specs.Blocked.{lags}
use Rattle.klp_tasks.proofs.WalkLemmas.{CountedSoFar}
use Rattle.klp_tasks.proofs.tasks.Tasks.lagging.Given as goal

abbrev pub invariant-loop-number : goal.invariant-loop-number
invariant-loop-number l = CountedSoFar (lags l.target) l.left.bits l.count l.self

abbrev pub decreases-loop-number : goal.decreases-loop-number
decreases-loop-number l = l.left.bits
