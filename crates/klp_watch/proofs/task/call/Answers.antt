use Rattle.std.proofs.Common.{◌≡◌, length, rules, sym, ◌∙◌}
use Rattle.klp_types.specs.declared.limits.TheConstants.{MAX_TASKS}
use Rattle.klp_manager_state.specs.Managed.{setting_of}
use Rattle.klp_watch.specs.Watching.{moment_of}
use Rattle.klp_watch.proofs.TaskLemmas.{call_inside}
use Rattle.klp_watch.proofs.task.call.Goals as goal

pub returns-clause-called : goal.returns-clause-called
returns-clause-called g c = λ stacks are.
    let places : length c.args.inside.now.rows ≡ MAX_TASKS = search rules in
    call_inside (setting_of c.args.manager.now.managed) (moment_of c.args.manager.now stacks) c.args.task c.args.inside.now.rows c.put.new.self.rows are
    (sym c.is_in_kernel.ensures.mode ∙ c.if-not-is_in_kernel.false) c.args.site c.in-Some.target c.frames-frames.result c.push.new.self
    (c.is_in_kernel.ensures.rows ∙ sym places) (sym c.pick.ensures ∙ c.in-Some.is) c.frames-frames.ensures (c.push.ensures.pushed c.if-not-push.false) c.put.ensures
