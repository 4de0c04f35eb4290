use Rattle.std.proofs.Common.{◌≡◌, ◌++◌, drop}
use Rattle.klp_capture_holders.specs.Holding.{still_held, threads_of}
use Rattle.klp_capture_holders.proofs.holders.add_all_still.Given as goal

-- those so far, and those of the holders that are left
abbrev pub invariant-loop-place : goal.invariant-loop-place
invariant-loop-place l =
    still_held l.list.items ++ threads_of l.run.tasks.items (drop l.place l.holding)
    ≡ still_held l.initial.list.items ++ threads_of l.run.tasks.items l.holding
