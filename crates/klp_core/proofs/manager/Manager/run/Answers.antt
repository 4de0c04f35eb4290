use Rattle.std.proofs.Common.{◌+◌, ◌∙◌, take, sym, subst, arith}
use Rattle.klp_core.specs.Taking.{IsTaken, AreTaken}
use Rattle.klp_core.proofs.EventLemmas.{next_event}
use Rattle.klp_core.proofs.RunLemmas.{one_accepted, one_refused, recounted, goes_on}
use Rattle.klp_core.proofs.manager.Manager.run.Goals as goal
use Rattle.klp_core.proofs.manager.Manager.run.Goals.{in-Ok, in-Err}

pub loop-event-preserved : goal.loop-event-preserved
loop-event-preserved g c =
    let events = c.args.events.now in
    let first = c.args.self.now in
    let now = c.loop-event.self in
    let new = c.apply_without_reply.new.self in
    let event = c.event-item.result in
    let so_far = c.loop-event.invariant in
    let done = take c.loop-event.event-index events in
    let next = next_event events c.loop-event.event-index event c.loop-event-test.true c.event-item.is in
    let setting = c.apply_without_reply.ensures.setting ∙ so_far.setting in
    let accepted = c.loop-event.accepted in
    let refused = c.loop-event.refused in
    elim c.match-apply_without_reply.branch [
      | in-Ok w ↦ record {
        taken = recounted first new (take (c.loop-event.event-index + 1) events) (accepted + 1) _ refused _ w.accepted-is w.refused-is
            (subst (λ es. AreTaken first new es (accepted + 1, refused)) (sym next)
            (one_accepted c.runs_add_up.ensures first now new done event _ accepted refused so_far.taken so_far.setting (subst (IsTaken now new event) w.in-Ok.is c.apply_without_reply.ensures.taken)));
        accepted = omega (arith, w.accepted-is, so_far.accepted);
        refused = omega (arith, w.refused-is, so_far.refused);
        setting = setting;
        well_formed = c.apply_without_reply.ensures.well_formed;
      }
      | in-Err w ↦ record {
        taken = recounted first new (take (c.loop-event.event-index + 1) events) accepted _ (refused + 1) _ w.accepted-is w.refused-is
            (subst (λ es. AreTaken first new es (accepted, refused + 1)) (sym next)
            (one_refused first now new done event _ accepted refused so_far.taken so_far.setting (subst (IsTaken now new event) w.in-Err.is c.apply_without_reply.ensures.taken)));
        accepted = omega (arith, w.accepted-is, so_far.accepted);
        refused = omega (arith, w.refused-is, so_far.refused);
        setting = setting;
        well_formed = c.apply_without_reply.ensures.well_formed;
      }
    ]

pub returns-clause-withdrawn : goal.returns-clause-withdrawn
returns-clause-withdrawn g c =
    let so_far = c.loop-event.invariant in
    c.what_is_withdrawn_leaves_no_trace.ensures c.args.self.now c.loop-event.self c.mark-for_its_clause.ensures.well_formed so_far.well_formed
    (goes_on c.args.self.now c.loop-event.self (take c.loop-event.event-index c.args.events.now) (c.loop-event.accepted, c.loop-event.refused) so_far.taken) so_far.setting
