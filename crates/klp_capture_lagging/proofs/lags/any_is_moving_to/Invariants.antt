use Rattle.std.proofs.Common.{◌≡◌, drop}
use Rattle.std.specs.List.{list_any}
use Rattle.klp_capture_lagging.specs.Lagging.{is_moving_to}
use Rattle.klp_capture_lagging.proofs.lags.any_is_moving_to.Given as goal

-- the lines so far don't have the transition
abbrev pub invariant-loop-row : goal.invariant-loop-row
invariant-loop-row l = list_any (is_moving_to l.patch l.target) l.rows ≡ list_any (is_moving_to l.patch l.target) (drop l.row-index l.rows)
