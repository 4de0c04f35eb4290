-- What is lost where a premise fails.
use Rattle.std.proofs.Common.{◌≡◌, ◌≤◌, Bool, true, false, cond, List, [], ◌∷◌, Option, Some, None, refl, sym, ap, ◌∙◌, arith}
use Rattle.std.specs.Prelude.{unwrap_or}
use Rattle.std.specs.FinMap as finite
use Rattle.klp_types.specs.declared.shadow.ShadowKey.{ShadowKey}
use Rattle.klp_types.specs.declared.edit.Edit.TheVariants.{Alloc, Free}
use Rattle.klp_types.specs.World.{key_cmp, ShadowValue, variable}
use Rattle.klp_types.specs.Script.{is_key, effect}
use Rattle.klp_types.specs.declared.version.Transition.{Transition}
use Rattle.klp_model.specs.declared.event.Event.{Event}
use Rattle.klp_model.specs.declared.event.Event.TheVariants.{Enable, SetEnabled, Poll, ShadowAlloc}
use Rattle.klp_model.specs.State.{State, is_installed}
use Rattle.klp_model.specs.ShadowStep.{shadow_changed, shadow_changes}
use Rattle.klp_model.specs.Step.{accepted}
use Rattle.klp_model.specs.Run.{run}
use Rattle.klp_model.specs.Company.{taking_part, EachUndoes}
use Rattle.klp_model.specs.RoundTripExamples.{key_of, value_of, adding, bare, own_variable_first, sharing, with_five, there_and_back}
use Rattle.klp_types.proofs.KeyLemmas.{key_total, same_key}
use Rattle.klp_model.proofs.WorldLemmas.{effect_at}
use Rattle.klp_model.proofs.StageLemmas.{Map, k9, k10, with_patch, to, inserted, removed, enough, script, on}

-- The variable (1, 9) is there before the patch comes.
abbrev n1 : Map
n1 = finite.insert finite.empty k9 (value_of 77)

abbrev n3 : Map
n3 = finite.insert n1 k10 (value_of 6)

abbrev n4 : Map
n4 = finite.remove n3 k10

abbrev n5 : Map
n5 = finite.remove n4 k9

few1 : finite.len n1 ≤ 1
few1 = inserted finite.empty k9 (value_of 77) 0 (omega (arith, finite.len-empty key_cmp ShadowValue))

few3 : finite.len n3 ≤ 2
few3 = inserted n1 k10 (value_of 6) 1 few1

few4 : finite.len n4 ≤ 2
few4 = removed n3 k10 2 few3

there : finite.get n1 k9 ≡ Some (value_of 77)
there = finite.get-insert key_total finite.empty k9 (value_of 77) k9

free : finite.get n1 k10 ≡ None
free = finite.get-insert key_total finite.empty k9 (value_of 77) k10 ∙ finite.get-empty key_cmp k10

abbrev bare_with : Map → State
bare_with shadow = record bare { world = record { installed = []; shadow = shadow } }

abbrev from_enable : List Event
from_enable = Enable 0 ∷ Poll ∷ SetEnabled 0 false ∷ Poll ∷ []

came : (accepted adding (bare_with n1) (Enable 0)).1 ≡ with_patch n1 (to true) []
came = rw there refl

complete : (accepted adding (with_patch n1 (to true) []) Poll).1 ≡ with_patch n3 None []
complete = rw free refl

ends : run adding bare own_variable_first ≡ bare_with n5
ends =
    on adding bare (bare_with n1) (ShadowAlloc k9 (value_of 77)) from_enable (rw (finite.get-empty key_cmp k9, finite.len-empty key_cmp ShadowValue) refl) refl
    ∙ on adding (bare_with n1) (with_patch n1 (to true) []) (Enable 0) (Poll ∷ SetEnabled 0 false ∷ Poll ∷ []) (rw (enough n1 1 (omega (arith, few1)) (omega arith)) refl) came
    ∙ on adding (with_patch n1 (to true) []) (with_patch n3 None []) Poll (SetEnabled 0 false ∷ Poll ∷ []) (rw (enough n1 1 (omega (arith, few1)) (omega arith)) refl) complete
    ∙ on adding (with_patch n3 None []) (with_patch n4 (to false) []) (SetEnabled 0 false) (Poll ∷ []) (rw (enough n3 0 (omega (arith, few3)) (omega arith)) refl) refl
    ∙ on adding (with_patch n4 (to false) []) (bare_with n5) Poll [] (rw (enough n4 0 (omega (arith, few4)) (omega arith)) refl) refl

pub lost_gone : is_installed (run adding bare own_variable_first) 0 ≡ false
lost_gone = ap (λ s. is_installed s 0) ends

pub lost : variable (run adding bare own_variable_first).world (key_of 1 9) ≡ None
lost = ap (λ (s : State). variable s.world k9) ends ∙ finite.get-remove key_total n4 k9 k9

pub expected : variable (shadow_changes bare.world own_variable_first) (key_of 1 9) ≡ Some (value_of 77)
expected = there

none_there : (o : Option ShadowValue) → o ≡ None → o ≡ Some (value_of 77) → ⊥
none_there None none some = cc
none_there (Some value) none some = cc

pub not_undone : EachUndoes 0 (shadow_changed bare.world (ShadowAlloc (key_of 1 9) (value_of 77))) (taking_part adding bare 0) → ⊥
not_undone undone =
    let world = shadow_changed bare.world (ShadowAlloc k9 (value_of 77)) in
    let gone : variable (effect 0 (effect 0 world (script (Alloc k9 (value_of 5) ∷ []))) (script (Free k9 ∷ []))) k9 ≡ None =
    effect_at 0 (effect 0 world (script (Alloc k9 (value_of 5) ∷ []))) (script (Free k9 ∷ [])) k9 in
    none_there (variable (effect 0 (effect 0 world (script (Alloc k9 (value_of 5) ∷ []))) (script (Free k9 ∷ []))) k9) gone (undone.0.pre k9 refl ∙ there)

-- Two objects share the variable (1, 1).
abbrev k : ShadowKey
k = key_of 1 1

abbrev m0 : Map
m0 = finite.insert finite.empty k (value_of 5)

abbrev mr : Map
mr = finite.remove m0 k

abbrev m1 : Map
m1 = finite.insert mr k (value_of 9)

len0 : finite.len m0 ≤ 1
len0 = inserted finite.empty k (value_of 5) 0 (omega (arith, finite.len-empty key_cmp ShadowValue))

len1 : finite.len m1 ≤ 2
len1 = inserted mr k (value_of 9) 1 (removed m0 k 1 len0)

abbrev both_with : Option Transition → State
both_with moving = record with_five { world = record { installed = record { patch = 0; values = [] } ∷ []; shadow = m1 }; moving = moving }

abbrev left_with : State
left_with = record with_five { world = record { installed = []; shadow = m1 } }

pub five : variable with_five.world (key_of 1 1) ≡ Some (value_of 5)
five = finite.get-insert key_total finite.empty k (value_of 5) k

nine : finite.get m1 k ≡ Some (value_of 9)
nine = finite.get-insert key_total mr k (value_of 9) k

taken : finite.get mr k ≡ None
taken = finite.get-remove key_total m0 k k

both_came : (accepted sharing with_five (Enable 0)).1 ≡ both_with (to true)
both_came = rw taken refl

both_left : (accepted sharing (both_with (to false)) Poll).1 ≡ left_with
both_left = rw nine refl

shared_ends : run sharing with_five there_and_back ≡ left_with
shared_ends =
    on sharing with_five (both_with (to true)) (Enable 0) (SetEnabled 0 false ∷ Poll ∷ []) (rw (enough m0 2 (omega (arith, len0)) (omega arith)) refl) both_came
    ∙ on sharing (both_with (to true)) (both_with (to false)) (SetEnabled 0 false) (Poll ∷ []) (rw (enough m1 0 (omega (arith, len1)) (omega arith)) refl) refl
    ∙ on sharing (both_with (to false)) left_with Poll [] (rw (enough m1 1 (omega (arith, len1)) (omega arith)) refl) both_left

pub shared_gone : is_installed (run sharing with_five there_and_back) 0 ≡ false
shared_gone = ap (λ s. is_installed s 0) shared_ends

pub shared_after : variable (run sharing with_five there_and_back).world (key_of 1 1) ≡ Some (value_of 9)
shared_after = ap (λ (s : State). variable s.world k) shared_ends ∙ nine

at_five : (key : ShadowKey) → is_key k key ≡ true → variable with_five.world key ≡ Some (value_of 5)
at_five key is = ap (variable with_five.world) (sym (same_key k key is)) ∙ five

removed_added : (b : Bool) (was : Option ShadowValue) → (b ≡ true → was ≡ Some (value_of 5)) → cond b (Some (unwrap_or (cond b None was) (value_of 5))) (cond b None was) ≡ was
removed_added true was is = sym (is refl)
removed_added false was is = refl

added_there : (b : Bool) (was : Option ShadowValue) → (b ≡ true → was ≡ Some (value_of 5)) → cond b (Some (unwrap_or was (value_of 9))) was ≡ was
added_there true was is = ap (λ o. Some (unwrap_or o (value_of 9))) (is refl) ∙ sym (is refl)
added_there false was is = refl

pub each_undoes : EachUndoes 0 with_five.world (taking_part sharing with_five 0)
each_undoes = (
  record {
    pre = λ key e.
        effect_at 0 (effect 0 with_five.world (script (Free k ∷ []))) (script (Alloc k (value_of 5) ∷ [])) key
        ∙ ap (λ was. cond (is_key k key) (Some (unwrap_or was (value_of 5))) was) (effect_at 0 with_five.world (script (Free k ∷ [])) key)
        ∙ removed_added (is_key k key) (variable with_five.world key) (at_five key);
    post = λ key e. refl;
  },
  (
    record {
      pre = λ key e.
          effect_at 0 with_five.world (script (Alloc k (value_of 9) ∷ [])) key ∙ added_there (is_key k key) (variable with_five.world key) (at_five key);
      post = λ key e. refl;
    },
    tt,
  ),
)
