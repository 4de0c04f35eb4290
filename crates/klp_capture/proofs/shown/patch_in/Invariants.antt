use Rattle.std.proofs.Common.{◌≡◌, drop}
use Rattle.std.specs.List.{find}
use Rattle.klp_capture.specs.Shown.{is_there_as}
use Rattle.klp_capture.proofs.shown.patch_in.Given as goal

-- the rows so far are of other patches
abbrev pub invariant-loop-row : goal.invariant-loop-row
invariant-loop-row l = find (is_there_as l.name) l.rows ≡ find (is_there_as l.name) (drop l.row-index l.rows)
