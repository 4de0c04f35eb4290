-- A run keeps a state allowed.
use Rattle.std.proofs.Common.{◌≡◌, Bool, true, false, List, [], ◌∷◌, refl, sym, subst}
use Rattle.klp_model.specs.declared.event.Event.{Event}
use Rattle.klp_types.specs.Setting.{Setting}
use Rattle.klp_model.specs.State.{State}
use Rattle.klp_model.specs.Refusals.{accepts}
use Rattle.klp_model.specs.Run.{next, run}
use Rattle.klp_model.specs.Allowed.{Allowed}
use Rattle.klp_model.proofs.RefusalLemmas.{next_refused}
use Rattle.klp_model.proofs.AllowedLemmas.{allowed_next_state}

pub allowed_after : (setting : Setting) (state : State) (event : Event) → Allowed setting state → Allowed setting (next setting state event)
allowed_after setting state event allowed = by (accepts setting state event) refl
  where
    by : (t : Bool) → accepts setting state event ≡ t → Allowed setting (next setting state event)
    by true e = allowed_next_state setting state event allowed e
    by false e = subst (Allowed setting) (sym (next_refused setting state event e)) allowed

pub allowed_run : (setting : Setting) (state : State) (events : List Event) → Allowed setting state → Allowed setting (run setting state events)
allowed_run setting state [] allowed = allowed
allowed_run setting state (event ∷ events) allowed = allowed_run setting (next setting state event) events (allowed_after setting state event allowed)
