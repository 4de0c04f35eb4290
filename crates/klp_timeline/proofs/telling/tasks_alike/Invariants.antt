use Rattle.std.proofs.Common.{◌≡◌, ◌++◌, drop}
use Rattle.klp_timeline.specs.Sentences.{tasks_alike}
use Rattle.klp_timeline.proofs.telling.tasks_alike.Given as goal

-- the tasks so far, and those that are left
abbrev pub invariant-loop-sleep : goal.invariant-loop-sleep
invariant-loop-sleep l = l.tasks ++ tasks_alike l.fn.own (drop l.sleep-index l.fn.sleeps) ≡ tasks_alike l.fn.own l.fn.sleeps
