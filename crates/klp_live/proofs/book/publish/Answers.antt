-- The change leads from the table before the event to the table after it.
use Rattle.std.proofs.Common.{sym, subst}
use Rattle.klp_types.specs.Setting.{Setting}
use Rattle.klp_model.specs.State.{State}
use Rattle.klp_model.specs.Legal.{state_after_history}
use Rattle.klp_live.specs.Dispatch.{IsDispatch, LeadsOn, changed}
use Rattle.klp_live.proofs.book.publish.Goals as goal

pub publish-requires-clause-change : goal.publish-requires-clause-change
publish-requires-clause-change g c table was =
    let setting = g.S.Start.setting in
    let state = (g.M.Machine.journaled c.args.machine.now).managed.state in
    let event = c.args.event.now in
    let change = c.in-Ok.change in
    let leads : LeadsOn setting state c.args.moving event change = subst (λ (s : Setting). LeadsOn s state c.args.moving event change) c.requires.setting c.in-Ok.ensures.leads in
    subst (λ (s : State). IsDispatch setting s (changed table change)) c.requires.state
    (leads (state_after_history setting g.S.Start.base c.args.publisher.now) table (sym c.requires.moving) c.requires.state was)
