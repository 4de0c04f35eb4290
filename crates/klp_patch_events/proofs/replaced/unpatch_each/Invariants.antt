use Rattle.std.proofs.Common.{drop}
use Rattle.klp_patch_events.proofs.CompleteLemmas.{SoFar}
use Rattle.klp_patch_events.proofs.replaced.unpatch_each.Given as goal

abbrev pub invariant-loop-patch : goal.invariant-loop-patch
invariant-loop-patch g l = SoFar l.catalog l.fn.sites l.sites l.fn.log l.log l.patches (drop l.patch-index l.patches)
