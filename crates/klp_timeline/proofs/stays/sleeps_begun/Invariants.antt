use Rattle.std.proofs.Common.{◌≡◌, ◌++◌, drop}
use Rattle.klp_timeline.specs.Stays.{sleeps_begun}
use Rattle.klp_timeline.proofs.stays.sleeps_begun.Given as goal

-- the stays of the tasks so far, and of those that are left
abbrev pub invariant-loop-task : goal.invariant-loop-task
invariant-loop-task l = l.sleeps.items ++ sleeps_begun l.task l.fn.before (drop l.task l.fn.stays) l.fn.line l.fn.rest
    ≡ sleeps_begun 0 l.fn.before l.fn.stays l.fn.line l.fn.rest
