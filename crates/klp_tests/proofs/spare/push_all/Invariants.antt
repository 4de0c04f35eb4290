use Rattle.klp_tests.proofs.Filling.{IsFilling}
use Rattle.klp_tests.proofs.spare.push_all.Given as goal

abbrev pub invariant-loop-patch : goal.invariant-loop-patch
invariant-loop-patch l = IsFilling l.fn.stacks l.stacks l.site l.patch
