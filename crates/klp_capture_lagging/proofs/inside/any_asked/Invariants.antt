use Rattle.std.proofs.Common.{◌≡◌, drop}
use Rattle.std.specs.List.{list_any}
use Rattle.klp_capture_lagging.specs.Inside.{is_asked_frame}
use Rattle.klp_capture_lagging.proofs.inside.any_asked.Given as goal

-- the frames so far are of other functions
abbrev pub invariant-loop-frame : goal.invariant-loop-frame
invariant-loop-frame l = list_any (is_asked_frame l.capture) l.frames ≡ list_any (is_asked_frame l.capture) (drop l.frame-index l.frames)
