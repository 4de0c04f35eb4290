use Rattle.klp_patch.proofs.CoverLemmas.{IsBehind}
use Rattle.klp_patch.proofs.covered.covers.Given as goal

abbrev pub invariant-loop-object : goal.invariant-loop-object
invariant-loop-object l = IsBehind l.image.image.objects l.fn.site l.object l.left
