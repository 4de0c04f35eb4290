use Rattle.klp_model.specs.Blocked.{switched}
use Rattle.klp_tasks.proofs.ListedLemmas.{listed}
use Rattle.klp_tasks.proofs.WalkLemmas.{WalkedSoFar}
use Rattle.klp_tasks.proofs.tasks.Tasks.try_all.Given as goal

abbrev pub invariant-loop-number : goal.invariant-loop-number
invariant-loop-number l = WalkedSoFar (switched (listed l.blocked).0 l.target) l.left.bits l.initial.self l.self l.initial.log l.log

abbrev pub decreases-loop-number : goal.decreases-loop-number
decreases-loop-number l = l.left.bits
