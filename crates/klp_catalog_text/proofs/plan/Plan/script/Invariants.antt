use Rattle.std.proofs.Common.{◌≡◌, ◌+◌, ◌++◌, drop, slice_get}
use Rattle.klp_catalog_text.specs.Scripts.{scripts_of_targets, scripts_of}
use Rattle.klp_catalog_text.proofs.plan.Plan.script.Given as goal

-- the script that is looked for stands among those of the targets and patches that are left
abbrev pub invariant-loop-target : goal.invariant-loop-target
invariant-loop-target l =
    slice_get (scripts_of l.patch-items) l.number
    ≡ slice_get (scripts_of_targets (drop l.target-index l.target-items) ++ scripts_of (drop (l.patch-index + 1) l.patch-items)) l.left

-- or among those of the patches that are left
abbrev pub invariant-loop-patch : goal.invariant-loop-patch
invariant-loop-patch l = slice_get (scripts_of l.patch-items) l.number ≡ slice_get (scripts_of (drop l.patch-index l.patch-items)) l.left
