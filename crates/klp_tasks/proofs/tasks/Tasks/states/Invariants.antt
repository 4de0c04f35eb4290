use Rattle.std.proofs.Common.{◌≡◌, map, take}
use Rattle.std.specs.Option.{option_map}
use Rattle.klp_types.specs.declared.task.Task.{Task}
use Rattle.klp_tasks.proofs.tasks.Tasks.states.Given as goal

abbrev pub invariant-loop-row : goal.invariant-loop-row
invariant-loop-row l = l.states.items ≡ map (option_map (λ (t : Task). t.state)) (take l.row-index l.row-items)
