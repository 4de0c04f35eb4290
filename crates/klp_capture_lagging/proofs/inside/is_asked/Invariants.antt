use Rattle.std.proofs.Common.{◌≡◌, drop}
use Rattle.std.specs.Prelude.{bytes_eq}
use Rattle.std.specs.List.{list_any}
use Rattle.klp_capture_lagging.specs.Inside.{is_asked}
use Rattle.klp_capture_lagging.proofs.inside.is_asked.Given as goal

-- the functions so far are others
abbrev pub invariant-loop-number : goal.invariant-loop-number
invariant-loop-number l = is_asked l.capture l.function ≡ list_any (λ name. bytes_eq name.now l.function) (drop l.number l.capture.asked.items)
