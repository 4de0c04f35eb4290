use Rattle.klp_model.specs.Task.{in_state}
use Rattle.klp_tasks.proofs.WalkLemmas.{WalkedSoFar}
use Rattle.klp_tasks.proofs.tasks.Tasks.set_all.Given as goal

abbrev pub invariant-loop-number : goal.invariant-loop-number
invariant-loop-number l = WalkedSoFar (in_state l.fn.state) l.left.bits l.initial.self l.self l.initial.log l.log

abbrev pub decreases-loop-number : goal.decreases-loop-number
decreases-loop-number l = l.left.bits
