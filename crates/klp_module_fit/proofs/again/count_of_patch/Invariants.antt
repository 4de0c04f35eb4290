use Rattle.std.proofs.Common.{◌≡◌, ◌≤◌, count_by, take}
use Rattle.klp_module_fit.specs.Fit.{is_same_patch}
use Rattle.klp_module_fit.proofs.again.count_of_patch.Given as goal

abbrev pub invariant-loop-other : goal.invariant-loop-other
invariant-loop-other l = (l.count ≡ count_by (is_same_patch l.one) (take l.other-index l.patches)) × (l.count ≤ l.other-index)
