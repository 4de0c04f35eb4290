use Rattle.std.proofs.Common.{ℕ, List, drop}
use Rattle.std.specs.List.{flat_map}
use Rattle.klp_capture.specs.Shown.{task_items, StandInOrder}
use Rattle.klp_capture.proofs.shown.tasks_stand.Given as goal

-- if the items of the tasks that are left stand in the lines that are left, all do
abbrev pub invariant-loop-seen : goal.invariant-loop-seen
invariant-loop-seen l =
    (to : List (List ℕ)) → StandInOrder (flat_map (task_items l.threads) (drop l.seen-index l.tasks)) l.lines to
    → StandInOrder (flat_map (task_items l.threads) l.tasks) l.initial.lines to
