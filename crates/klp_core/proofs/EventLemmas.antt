-- Events of a list, and events that are refused.
use Rattle.std.proofs.Common.{◌≡◌, ℕ, ◌+◌, ◌<◌, List, [], ◌∷◌, ◌++◌, take, length, get_or, Option, Some, None, refl, sym, ap, subst, ◌∙◌}
use Rattle.std.specs.Prelude.{OnErr, Result, Ok, Err}
use Rattle.std.proofs.lemmas.List.{take_more}
use Rattle.klp_model.specs.declared.event.Event.{Event}
use Rattle.klp_model.specs.declared.event.Reply.{Reply}
use Rattle.klp_model.specs.declared.event.Refusal.{Refusal}
use Rattle.klp_model.specs.State.{State}
use Rattle.klp_types.specs.FirstOf.{first_of, unless}
use Rattle.klp_types.specs.Callbacks.{Call}
use Rattle.klp_model.specs.EventCalls.{calls}
use Rattle.klp_model.specs.Refusals.{refusals}
use Rattle.klp_model.specs.Step.{accepted, calls_unless}
use Rattle.klp_model.specs.Run.{answer_of, state_after}
use Rattle.klp_catalog.specs.Runs.{after_runs}
use Rattle.klp_manager_state.specs.Managed.{Managed, setting_of}
use Rattle.klp_manager_state.specs.Events.{Takes}

pub next_event : {A : Type 0} (xs : List A) (i : ℕ) (x : A) → i < length xs → x ≡ get_or xs i x → take (i + 1) xs ≡ take i xs ++ x ∷ []
next_event xs i x below is = take_more xs i x below ∙ ap (λ y. take i xs ++ y ∷ []) (sym is)

refused_if : (managed : Managed) (refusal : Option Refusal) (outcome : Reply × State) (runs : List Call) (result : Result Reply Refusal)
    → result ≡ answer_of (unless refusal outcome)
    → OnErr result ((record managed {
      catalog = after_runs managed.catalog (calls_unless refusal runs);
      state = state_after managed.state (unless refusal outcome);
    }) ≡ managed)
refused_if managed refusal outcome runs (Ok reply) is = tt
refused_if managed None outcome runs (Err reason) is = let no : ⊥ = cc in absurd no
refused_if managed (Some refusal) outcome runs (Err reason) is = refl

-- a refusal leaves everything
pub refusal_stays : (before after : Managed) (event : Event) (result : Result Reply Refusal) → Takes before after event result → OnErr result (after ≡ before)
refusal_stays before after event result taken =
    subst (λ (m : Managed). OnErr result (m ≡ before)) (sym taken.left)
    (refused_if before (first_of (refusals (setting_of before) before.state event)) (accepted (setting_of before) before.state event)
    (calls (setting_of before) before.state event) result taken.answered)
