use Rattle.std.proofs.Common.{◌≡◌, drop}
use Rattle.std.specs.List.{list_any}
use Rattle.klp_timeline.specs.Sentences.{is_alike}
use Rattle.klp_timeline.proofs.telling.has_alike.Given as goal

abbrev pub invariant-loop-sleep : goal.invariant-loop-sleep
invariant-loop-sleep l = list_any (is_alike l.fn.own) (drop l.sleep-index l.fn.sleeps) ≡ list_any (is_alike l.fn.own) l.fn.sleeps
