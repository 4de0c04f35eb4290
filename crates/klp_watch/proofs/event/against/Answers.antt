use Rattle.std.proofs.Common.{sym, ◌∙◌}
use Rattle.klp_manager_state.specs.Managed.{setting_of}
use Rattle.klp_watch.proofs.EnteredLemmas.{entered, not_entered}
use Rattle.klp_watch.proofs.FramesLemmas.{equal_frames, other_frames}
use Rattle.klp_watch.proofs.event.against.Goals as goal

pub returns-in-Sleep-clause-found : goal.returns-in-Sleep-clause-found
returns-in-Sleep-clause-found g c = λ stacks are.
    rw c.in-Sleep.is (λ same. other_frames c.frames.result c.in-Sleep.frames c.if-ne.ensures (c.frames.ensures ∙ are c.in-Sleep.task ∙ sym same))

pub returns-in-Going-clause-found : goal.returns-in-Going-clause-found
returns-in-Going-clause-found g c = λ stacks are.
    rw c.in-Going.is
    (entered (setting_of c.args.manager.now.managed) c.in-Going.object c.args.inside.now.rows stacks are (sym c.is_entered.ensures ∙ c.if-is_entered.true))

pub returns-in_default-clause-none : goal.returns-in_default-clause-none
returns-in_default-clause-none g c = λ stacks are.
    rw c.in-Sleep.is (sym (equal_frames c.frames.result c.in-Sleep.frames c.if-ne.ensures) ∙ c.frames.ensures ∙ are c.in-Sleep.task)

pub returns-in_default-2-clause-none : goal.returns-in_default-2-clause-none
returns-in_default-2-clause-none g c = λ stacks are.
    rw c.in-Going.is
    (not_entered (setting_of c.args.manager.now.managed) c.in-Going.object c.args.inside.now.rows stacks are (sym c.is_entered.ensures ∙ c.if-is_entered.false))
