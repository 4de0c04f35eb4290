use Rattle.std.proofs.Common.{◌≡◌, refl, arith, length}
use Rattle.klp_types.specs.declared.limits.TheConstants.{MAX_TASKS}
use Rattle.klp_model.specs.Task.{task_at, in_state}
use Rattle.klp_tasks.specs.Changes.{changed, record_if_switched}
use Rattle.klp_tasks.proofs.TaskLemmas.{room_if}
use Rattle.klp_tasks.proofs.WalkLemmas.{walk_started, walked_to, walked_past, walked_all}
use Rattle.klp_tasks.proofs.tasks.Tasks.set_all.Goals as goal

pub loop-number-init : goal.loop-number-init
loop-number-init c = walk_started _ c.self.inside.numbers.bits c.args.self.now c.args.log.now (rw (← c.self.view_is) c.self.invariant.3)

pub loop-number-smaller : goal.loop-number-smaller
loop-number-smaller c = c.in-Some.ensures.some.fewer

pub set_state-requires : goal.set_state-requires
set_state-requires c =
    let so_far = walked_to (in_state c.args.state) c.loop-number.left.bits c.in-Some.number _ c.args.self.now c.loop-number.self c.args.log.now c.loop-number.log c.loop-number.invariant c.in-Some.ensures.some in
    room_if (in_state c.args.state) c.in-Some.number c.args.self.now c.loop-number.self c.args.log.now c.loop-number.log
    (record_if_switched c.in-Some.number (task_at c.loop-number.self c.in-Some.number) (task_at (changed c.loop-number.self c.in-Some.number (in_state c.args.state)) c.in-Some.number))
    so_far refl c.requires

pub loop-number-preserved : goal.loop-number-preserved
loop-number-preserved c =
    walked_past (in_state c.args.state) c.loop-number.left.bits c.in-Some.number _ c.args.self.now c.loop-number.self c.set_state.new.self c.args.log.now c.loop-number.log c.set_state.new.log
    (record_if_switched c.in-Some.number (task_at c.loop-number.self c.in-Some.number) (task_at c.set_state.new.self c.in-Some.number))
    c.loop-number.invariant c.in-Some.ensures.some c.set_state.ensures.tasks refl c.set_state.ensures.logged.undo c.set_state.ensures.logged.records

pub returns-clause-tasks : goal.returns-clause-tasks
returns-clause-tasks c =
    let long : length c.args.self.now ≡ MAX_TASKS = rw (← c.self.view_is) (omega arith) in
    walked_all (in_state c.args.state) c.loop-number.left.bits c.args.self.now c.loop-number.self c.args.log.now c.loop-number.log c.loop-number.invariant c.in_default.ensures.none long

pub returns-clause-records : goal.returns-clause-records
returns-clause-records c = rw (← returns-clause-tasks c) c.loop-number.invariant.changed.records

pub returns-clause-undo : goal.returns-clause-undo
returns-clause-undo c = rw (← returns-clause-tasks c) c.loop-number.invariant.changed.undo
