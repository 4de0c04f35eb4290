-- What leaves a trace, and what isn't fair to a patch.
use Rattle.std.proofs.Common.{◌≡◌, ℕ, ◌<◌, Bool, true, false, List, [], ◌∷◌, Some, None, refl, sym, ap, ◌∙◌, arith}
use Rattle.std.proofs.lemmas.Option.{none-some}
use Rattle.std.specs.FinMap as finite
use Rattle.klp_types.specs.World.{Installed, key_cmp}
use Rattle.klp_types.specs.declared.version.Transition.{Transition}
use Rattle.klp_model.specs.declared.event.Event.TheVariants.{Enable, SetEnabled, Force, Poll, Coming, Going, ShadowAlloc, ShadowFree}
use Rattle.klp_types.proofs.KeyLemmas.{key_total}
use Rattle.klp_model.specs.State.{with_world}
use Rattle.klp_model.specs.ShadowStep.{shadow_changed}
use Rattle.klp_model.specs.Company.{company_keys, IsOfCompany, IsFairEvent, IsFairStart}
use Rattle.klp_model.specs.Footprint.{SameFootprint}
use Rattle.klp_model.specs.Examples.{small_kernel, move_of, state_with, with_state, with_states}
use Rattle.klp_model.specs.RoundTripExamples.{key_of, value_of, adding, bare}

not_so : false ≡ true → ⊥
not_so e = cc

so : true ≡ false → ⊥
so e = cc

differ : (a b : ℕ) → a < b → a ≡ b → ⊥
differ a b less e = omega (arith, less, e)

moves_not : (move : Transition) → Some move ≡ None → ⊥
moves_not move e = none-some move (sym e)

abbrev flag_of : List Bool → Bool
flag_of [] = false
flag_of (flag ∷ flags) = flag

abbrev patch_of : List Installed → ℕ
patch_of [] = 0
patch_of (first ∷ newer) = first.patch

abbrev value_in : List (ℕ × ℕ) → ℕ
value_in [] = 0
value_in (state ∷ states) = state.1

abbrev first_value : List Installed → ℕ
first_value [] = 0
first_value (first ∷ newer) = value_in first.values

abbrev second_flag : List Bool → Bool
second_flag [] = false
second_flag (flag ∷ flags) = flag_of flags

pub module_loaded : SameFootprint small_kernel (λ key. false) (state_with true [] None []) (state_with false [] None []) → ⊥
module_loaded same = so (ap second_flag same.loaded)

pub other_order : SameFootprint small_kernel (λ key. false) (state_with true (0 ∷ 2 ∷ []) None []) (state_with true (2 ∷ 0 ∷ []) None []) → ⊥
other_order same = differ 0 2 (omega arith) (ap patch_of same.installed)

pub other_value : SameFootprint small_kernel (λ key. false) (with_states (with_state 0 5 ∷ []) None) (with_states (with_state 0 6 ∷ []) None) → ⊥
other_value same = differ 5 6 (omega arith) (ap first_value same.installed)

pub pinned_since : SameFootprint small_kernel (λ key. false) (record (state_with true [] None []) { pinned = true ∷ false ∷ false ∷ false ∷ [] }) (state_with true [] None []) → ⊥
pinned_since same = so (ap flag_of same.pinned)

pub added_since : SameFootprint adding (λ key. true) (with_world bare (shadow_changed bare.world (ShadowAlloc (key_of 1 9) (value_of 77)))) bare → ⊥
added_since same =
    let k = key_of 1 9 in
    none-some (value_of 77) (sym (finite.get-empty key_cmp k) ∙ sym (same.variables k refl) ∙ finite.get-insert key_total finite.empty k (value_of 77) k)

pub another : IsOfCompany 0 (λ key. false) (Enable 1) → ⊥
another of_it = differ 0 1 (omega arith) (sym of_it)

pub another_disabled : IsOfCompany 0 (λ key. false) (SetEnabled 1 false) → ⊥
another_disabled of_it = differ 0 1 (omega arith) (sym of_it)

pub forced : IsOfCompany 0 (λ key. false) (Force 0) → ⊥
forced of_it = of_it

pub comes : IsOfCompany 0 (λ key. false) (Coming 1) → ⊥
comes of_it = of_it

pub goes : IsOfCompany 0 (λ key. false) (Going 1) → ⊥
goes of_it = of_it

pub own_variable : IsOfCompany 0 (company_keys adding bare 0) (ShadowFree (key_of 1 9)) → ⊥
own_variable of_it = so (of_it (key_of 1 9) refl)

pub refused : IsFairEvent adding 0 (λ key. false) bare Poll → ⊥
refused fair = not_so fair.accepted

pub starts_moving : IsFairStart small_kernel 2 (state_with true (0 ∷ []) (move_of 0 true) []) → ⊥
starts_moving start = moves_not _ start.still

pub starts_installed : IsFairStart small_kernel 0 (state_with true (0 ∷ []) None []) → ⊥
starts_installed start = so start.away
