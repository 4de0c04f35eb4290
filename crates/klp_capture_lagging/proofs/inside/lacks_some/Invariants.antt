use Rattle.std.proofs.Common.{◌≡◌, drop}
use Rattle.std.specs.Prelude.{not}
use Rattle.std.specs.List.{list_any}
use Rattle.klp_capture_lagging.specs.Inside.{is_there, lacks_some}
use Rattle.klp_capture_lagging.proofs.inside.lacks_some.Given as goal

-- the functions so far are there
abbrev pub invariant-loop-number : goal.invariant-loop-number
invariant-loop-number l = lacks_some l.capture ≡ list_any (λ name. not (is_there l.capture name.now)) (drop l.number l.capture.asked.items)
