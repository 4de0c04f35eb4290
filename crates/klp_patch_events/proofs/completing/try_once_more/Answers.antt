use Rattle.std.proofs.Common.{◌≡◌, ◌∙◌, arith}
use Rattle.klp_model.specs.declared.event.Event.TheVariants.{Poll}
use Rattle.klp_model.specs.declared.event.Reply.TheVariants.{Completed}
use Rattle.klp_model.specs.Blocked.{pending}
use Rattle.klp_manager_state.specs.Managed.{setting_in, state_in}
use Rattle.klp_manager_state.proofs.StepLemmas.{step_accepted}
use Rattle.klp_patch_events.proofs.CompletePollLemmas.{is_completed}
use Rattle.klp_patch_events.proofs.completing.try_once_more.Goals as goal

pub returns-clause-accepted : goal.returns-clause-accepted
returns-clause-accepted g c =
    let before = c.args.state.now in
    let catalog = c.args.catalog.now in
    let now = c.complete.new.catalog in
    let move = c.in-Some.moving in
    let few = c.if-left-gt0.false in
    let left = c.try_tasks-left.ensures.left in
    let none : pending (setting_in before catalog) (state_in before catalog) move ≡ 0 = omega (arith, few, left) in
    step_accepted c.steps_keep.ensures before c.complete.new.state catalog now Poll (Completed move.target) c.requires.kept c.requires.free
    (is_completed before c.try_tasks-left.new.state c.complete.new.state catalog now move c.requires.kept c.in-Some.is c.try_tasks-left.ensures.parts none c.complete.ensures.completed)

pub returns-clause-logged : goal.returns-clause-logged
returns-clause-logged g c = c.complete.ensures.logged ∙ c.try_tasks-left.ensures.logged
