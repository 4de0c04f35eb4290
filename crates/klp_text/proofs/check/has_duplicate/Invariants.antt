-- The rest of the objects decides.
use Rattle.std.proofs.Common.{◌≡◌, drop}
use Rattle.klp_text.specs.Faults.{has_duplicate}
use Rattle.klp_text.proofs.check.has_duplicate.Given as goal

abbrev pub invariant-loop-i : goal.invariant-loop-i
invariant-loop-i l = has_duplicate (drop l.i l.objects) ≡ has_duplicate l.objects
