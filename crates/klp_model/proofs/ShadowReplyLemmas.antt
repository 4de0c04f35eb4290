-- What shadow events answer and leave.
use Rattle.std.proofs.Common.{◌≡◌, ℕ, true, false, cond, Some, None, Ok, refl, ap, ◌∙◌}
use Rattle.std.specs.Prelude.{◌==◌, nat_le, if◌then◌else◌}
use Rattle.std.proofs.lemmas.Bool.{eq-eqb}
use Rattle.std.specs.FinMap as finite
use Rattle.klp_types.specs.declared.shadow.ShadowKey.{ShadowKey}
use Rattle.klp_model.specs.declared.event.Event.TheVariants.{ShadowAlloc, ShadowGetOrAlloc, ShadowFree, ShadowFreeAll}
use Rattle.klp_model.specs.declared.event.Reply.TheVariants.{Value, Freed}
use Rattle.klp_model.specs.declared.event.Refusal.TheVariants.{Exists, Full}
use Rattle.klp_types.specs.Setting.{Setting}
use Rattle.klp_types.specs.World.{ShadowValue, variable}
use Rattle.klp_types.specs.Script.{is_key}
use Rattle.klp_model.specs.State.{State}
use Rattle.klp_model.specs.Refusals.{refusal}
use Rattle.klp_model.specs.Step.{accepted, step}
use Rattle.klp_model.proofs.ShadowEventLemmas.{shadow_changed_at, shadow_leaves}

key_itself : (key : ShadowKey) → is_key key key ≡ true
key_itself key = rw (eq-eqb key.obj key.obj refl, eq-eqb key.id key.id refl) refl

pub in_the_way : (setting : Setting) (state : State) (key : ShadowKey) (value old : ShadowValue) → variable state.world key ≡ Some old → refusal setting state (ShadowAlloc key value) ≡ Some Exists
in_the_way setting state key value old e = rw e refl

pub takes_room : (setting : Setting) (state : State) (key : ShadowKey) (value : ShadowValue) → variable state.world key ≡ None
    → refusal setting state (ShadowAlloc key value) ≡ (if nat_le 512 (finite.len state.world.shadow) then Some Full else None)
takes_room setting state key value e = rw e refl

pub takes_room_if_new : (setting : Setting) (state : State) (key : ShadowKey) (value : ShadowValue) → variable state.world key ≡ None
    → refusal setting state (ShadowGetOrAlloc key value) ≡ (if nat_le 512 (finite.len state.world.shadow) then Some Full else None)
takes_room_if_new setting state key value e = rw e refl

pub added : (setting : Setting) (state : State) (key : ShadowKey) (value : ShadowValue) → variable (accepted setting state (ShadowAlloc key value)).1.world key ≡ Some value
added setting state key value =
    shadow_changed_at state.world (ShadowAlloc key value) key ∙ ap (λ b. cond b (Some value) (variable state.world key)) (key_itself key)

pub found : (setting : Setting) (state : State) (key : ShadowKey) (value old : ShadowValue) → variable state.world key ≡ Some old
    → step setting state (ShadowGetOrAlloc key value) ≡ Ok (Value old, state)
found setting state key value old e = rw e refl

pub got : (setting : Setting) (state : State) (key : ShadowKey) (value : ShadowValue) → variable state.world key ≡ None
    → accepted setting state (ShadowGetOrAlloc key value) ≡ (Value value, (accepted setting state (ShadowAlloc key value)).1)
got setting state key value e = rw e refl

pub one_freed : (setting : Setting) (state : State) (key : ShadowKey) (old : ShadowValue) → variable state.world key ≡ Some old → (accepted setting state (ShadowFree key)).0 ≡ Freed 1
one_freed setting state key old e = rw e refl

pub none_freed : (setting : Setting) (state : State) (key : ShadowKey) → variable state.world key ≡ None → (accepted setting state (ShadowFree key)).0 ≡ Freed 0
none_freed setting state key e = rw e refl

pub gone : (setting : Setting) (state : State) (key : ShadowKey) → variable (accepted setting state (ShadowFree key)).1.world key ≡ None
gone setting state key =
    shadow_changed_at state.world (ShadowFree key) key ∙ ap (λ b. cond b None (variable state.world key)) (key_itself key)

pub all_gone : (setting : Setting) (state : State) (id : ℕ) (key : ShadowKey)
    → variable (accepted setting state (ShadowFreeAll id)).1.world key ≡ (if id == key.id then None else variable state.world key)
all_gone setting state id key = shadow_changed_at state.world (ShadowFreeAll id) key

pub others : (setting : Setting) (state : State) (own key : ShadowKey) (value : ShadowValue) → is_key own key ≡ false
    → (variable (accepted setting state (ShadowAlloc own value)).1.world key ≡ variable state.world key)
    × (variable (accepted setting state (ShadowGetOrAlloc own value)).1.world key ≡ variable state.world key)
    × (variable (accepted setting state (ShadowFree own)).1.world key ≡ variable state.world key)
others setting state own key value e = (
  shadow_changed_at state.world (ShadowAlloc own value) key ∙ shadow_leaves key (variable state.world key) (ShadowAlloc own value) e,
  shadow_changed_at state.world (ShadowGetOrAlloc own value) key ∙ shadow_leaves key (variable state.world key) (ShadowGetOrAlloc own value) e,
  shadow_changed_at state.world (ShadowFree own) key ∙ shadow_leaves key (variable state.world key) (ShadowFree own) e,
)
