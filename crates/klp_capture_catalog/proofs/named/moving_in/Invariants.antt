use Rattle.std.proofs.Common.{◌≡◌, drop}
use Rattle.std.specs.List.{find}
use Rattle.klp_capture_catalog.specs.Rows.{is_moving}
use Rattle.klp_capture_catalog.proofs.named.moving_in.Given as goal

-- none of the rows so far is of a patch in transition
abbrev pub invariant-loop-row : goal.invariant-loop-row
invariant-loop-row l = find is_moving l.rows ≡ find is_moving (drop l.row-index l.rows)
