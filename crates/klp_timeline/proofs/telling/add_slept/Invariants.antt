use Rattle.std.proofs.Common.{◌≡◌, ◌++◌, [], take, drop}
use Rattle.klp_timeline.specs.Sentences.{slept_from}
use Rattle.klp_timeline.proofs.telling.add_slept.Given as goal

-- the sleepers so far, and those that are left
abbrev pub invariant-loop-index : goal.invariant-loop-index
invariant-loop-index l = l.sentences.items ++ slept_from l.fn.line l.fn.sleeps (take l.index l.fn.sleeps) (drop l.index l.fn.sleeps)
    ≡ l.initial.sentences.items ++ slept_from l.fn.line l.fn.sleeps [] l.fn.sleeps
