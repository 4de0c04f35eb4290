use Rattle.std.proofs.Common.{◌≡◌, ◌<◌, ◌∙◌, refl, arith, length}
use Rattle.klp_types.specs.declared.limits.TheConstants.{MAX_TASKS}
use Rattle.klp_model.specs.Task.{task_at}
use Rattle.klp_model.specs.Blocked.{switched}
use Rattle.klp_tasks.specs.Changes.{record_if_switched}
use Rattle.klp_tasks.proofs.ListedLemmas.{listed}
use Rattle.klp_tasks.proofs.TaskLemmas.{room_left, switched_alike}
use Rattle.klp_tasks.proofs.WalkLemmas.{walk_started, walked_to, walked_past, walked_all}
use Rattle.klp_tasks.proofs.tasks.Tasks.try_all.Goals as goal

pub loop-number-init : goal.loop-number-init
loop-number-init c = walk_started _ c.self.inside.numbers.bits c.args.self.now c.args.log.now (rw (← c.self.view_is) c.self.invariant.3)

pub loop-number-smaller : goal.loop-number-smaller
loop-number-smaller c = c.in-Some.ensures.some.fewer

pub switch_if_clear-requires : goal.switch_if_clear-requires
switch_if_clear-requires c =
    let list = listed c.args.blocked.now in
    let more : c.in-Some.number < length c.args.self.now = rw (← c.self.view_is) (omega (arith, c.in-Some.ensures.some.within, c.self.invariant.0)) in
    let so_far = walked_to (switched list.0 c.args.target) c.loop-number.left.bits c.in-Some.number _ c.args.self.now c.loop-number.self c.args.log.now c.loop-number.log c.loop-number.invariant c.in-Some.ensures.some in
    room_left (switched list.0 c.args.target) c.in-Some.number c.args.self.now c.loop-number.self c.args.log.now c.loop-number.log so_far more c.requires

pub loop-number-preserved : goal.loop-number-preserved
loop-number-preserved c =
    let list = listed c.args.blocked.now in
    walked_past (switched list.0 c.args.target) c.loop-number.left.bits c.in-Some.number _ c.args.self.now c.loop-number.self c.switch_if_clear.new.self c.args.log.now c.loop-number.log c.switch_if_clear.new.log
    (record_if_switched c.in-Some.number (task_at c.loop-number.self c.in-Some.number) (task_at c.switch_if_clear.new.self c.in-Some.number))
    c.loop-number.invariant c.in-Some.ensures.some (c.switch_if_clear.ensures.tasks list.0 list.1) refl c.switch_if_clear.ensures.logged.undo c.switch_if_clear.ensures.logged.records

pub returns-clause-tasks : goal.returns-clause-tasks
returns-clause-tasks c = λ versions same.
    let list = listed c.args.blocked.now in
    let long : length c.args.self.now ≡ MAX_TASKS = rw (← c.self.view_is) (omega arith) in
    walked_all (switched list.0 c.args.target) c.loop-number.left.bits c.args.self.now c.loop-number.self c.args.log.now c.loop-number.log c.loop-number.invariant c.in_default.ensures.none long
    ∙ switched_alike c.args.blocked.now list.0 versions list.1 same c.args.target c.args.self.now

pub returns-clause-records : goal.returns-clause-records
returns-clause-records c = c.loop-number.invariant.changed.records

pub returns-clause-undo : goal.returns-clause-undo
returns-clause-undo c = c.loop-number.invariant.changed.undo
