-- An event that the journal has room for is done by the rules alone.
use Rattle.std.proofs.Common.{◌≡◌, true, Result, Ok, Err, refl, sym, ap, ◌∙◌}
use Rattle.klp_model.specs.declared.event.Event.{Event}
use Rattle.klp_model.specs.declared.event.Reply.{Reply}
use Rattle.klp_model.specs.declared.event.Refusal.{Refusal}
use Rattle.klp_model.specs.State.{State}
use Rattle.klp_model.specs.Run.{answer, answer_of, state_after, next}
use Rattle.klp_model.specs.Step.{step}
use Rattle.klp_journal.specs.Journal.{has_room}
use Rattle.klp_manager_state.specs.Managed.{Managed, setting_of}
use Rattle.klp_core.specs.Journaled.{Journaled}
use Rattle.klp_core.specs.Taking.{IsTaken, unless_full}

-- what the rules refuse leaves the state
stays : (state : State) (stepped : Result (Reply × State) Refusal) (refusal : Refusal) → unless_full true (answer_of stepped) ≡ Err refusal
    → state_after state stepped ≡ state
stays state (Ok outcome) refusal is = absurd (cc)
stays state (Err other) refusal is = refl

pub taken_next : (before after : Journaled) (event : Event) (result : Result Reply Refusal) → IsTaken before after event result
    → has_room before.groups ≡ true → after.managed.state ≡ next (setting_of before.managed) before.managed.state event
taken_next before after event (Ok reply) taken room = ap (λ (m : Managed). m.state) taken.accepted.left
taken_next before after event (Err refusal) taken room =
    let refused : unless_full true (answer (setting_of before.managed) before.managed.state event) ≡ Err refusal =
    ap (λ r. unless_full r (answer (setting_of before.managed) before.managed.state event)) (sym room) ∙ sym taken.answered in
    ap (λ (m : Journaled). m.managed.state) taken.refused
    ∙ sym (stays before.managed.state (step (setting_of before.managed) before.managed.state event) refusal refused)
