use Rattle.klp_tests.proofs.Filling.{IsEmptyFrom}
use Rattle.klp_tests.proofs.spare.fill.Given as goal

abbrev pub invariant-loop-site : goal.invariant-loop-site
invariant-loop-site l = IsEmptyFrom l.stacks l.site
