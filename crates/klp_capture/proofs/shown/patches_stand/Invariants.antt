use Rattle.std.proofs.Common.{ℕ, List, drop}
use Rattle.std.specs.List.{flat_map}
use Rattle.klp_capture.specs.Shown.{patch_items, StandInOrder}
use Rattle.klp_capture.proofs.shown.patches_stand.Given as goal

-- if the items of the patches that are left stand in the lines that are left, all do
abbrev pub invariant-loop-patch : goal.invariant-loop-patch
invariant-loop-patch l =
    (to : List (List ℕ)) → StandInOrder (flat_map (patch_items l.rows) (drop l.patch-index l.patches)) l.lines to
    → StandInOrder (flat_map (patch_items l.rows) l.patches) l.initial.lines to
