use Rattle.std.proofs.Common.{sym, ◌∙◌}
use Rattle.klp_manager_state.specs.Managed.{setting_of}
use Rattle.klp_watch.specs.Watching.{moment_of}
use Rattle.klp_watch.proofs.TaskLemmas.{some_left, return_inside}
use Rattle.klp_watch.proofs.task.come_back.Goals as goal

pub returns-clause-returned : goal.returns-clause-returned
returns-clause-returned g c = λ stacks are.
    let some = some_left c.frames-frames.result (λ none. c.if-len-eq0.false (c.len.ensures ∙ none)) in
    return_inside (setting_of c.args.manager.now.managed) (moment_of c.args.manager.now stacks) c.args.task c.args.inside.now.rows c.put.new.self.rows are
    (sym c.is_in_kernel.ensures.mode ∙ c.if-not-is_in_kernel.false) c.frames-frames.result c.pop.new.self c.frames-frames.ensures some c.pop.ensures c.put.ensures
