-- The numbers of installed patches: distinct, and stacked as they may be.
use Rattle.std.proofs.Common.{◌≡◌, ℕ, Bool, true, false, ◌||◌, cond, List, [], ◌∷◌, ◌++◌, map, Option, Some, None, refl, sym, ap, subst, ◌∙◌, arith}
use Rattle.std.specs.Prelude.{◌==◌}
use Rattle.std.proofs.lemmas.Bool.{eq-eqb, eqb-true, or_parts, both_ways}
use Rattle.std.proofs.lemmas.Bool.Decides.{nat_tests}
use Rattle.std.proofs.Math.Bool.{or-true}
use Rattle.klp_types.specs.declared.version.Transition.{Transition}
use Rattle.klp_types.specs.Setting.{Setting, replaces}
use Rattle.klp_types.specs.World.{Installed, World, taken_out}
use Rattle.klp_model.specs.State.{is_among}
use Rattle.klp_model.specs.Completing.{from_patch}
use Rattle.klp_types.specs.Callbacks.{Call, after_calls}
use Rattle.klp_types.specs.Script.{effect}
use Rattle.klp_model.specs.Refusals.{has_patch}
use Rattle.klp_model.specs.Allowed.{is_one_of, AreKnown, AreDistinct, AreAbove, AreStacked}
use Rattle.klp_types.proofs.ScriptLemmas.{installed_stay}

abbrev pub numbers : List Installed → List ℕ
numbers list = map (λ (i : Installed). i.patch) list

abbrev pub left_out : ℕ → List ℕ → List ℕ
left_out patch [] = []
left_out patch (first ∷ newer) = cond (first == patch) newer (first ∷ left_out patch newer)

abbrev pub from_on : ℕ → List ℕ → List ℕ
from_on patch [] = []
from_on patch (first ∷ newer) = cond (first == patch) (first ∷ newer) (from_on patch newer)

pub numbers-put : (list : List Installed) (i : Installed) → numbers (list ++ i ∷ []) ≡ numbers list ++ i.patch ∷ []
numbers-put [] i = refl
numbers-put (first ∷ list) i = ap (λ rest. first.patch ∷ rest) (numbers-put list i)

pub numbers-taken_out : (patch : ℕ) (list : List Installed) → numbers (taken_out patch list) ≡ left_out patch (numbers list)
numbers-taken_out patch [] = refl
numbers-taken_out patch (first ∷ list) = by (first.patch == patch) (numbers-taken_out patch list)
  where
    by : (t : Bool) → numbers (taken_out patch list) ≡ left_out patch (numbers list)
        → numbers (cond t list (first ∷ taken_out patch list)) ≡ cond t (numbers list) (first.patch ∷ left_out patch (numbers list))
    by true e = refl
    by false e = ap (λ rest. first.patch ∷ rest) e

pub numbers-from_patch : (patch : ℕ) (list : List Installed) → numbers (from_patch patch list) ≡ from_on patch (numbers list)
numbers-from_patch patch [] = refl
numbers-from_patch patch (first ∷ list) = by (first.patch == patch) (numbers-from_patch patch list)
  where
    by : (t : Bool) → numbers (from_patch patch list) ≡ from_on patch (numbers list)
        → numbers (cond t (first ∷ list) (from_patch patch list)) ≡ cond t (first.patch ∷ numbers list) (from_on patch (numbers list))
    by true e = refl
    by false e = e

pub numbers-after_calls : (world : World) (calls : List Call) → numbers (after_calls world calls).installed ≡ numbers world.installed
numbers-after_calls world [] = refl
numbers-after_calls world (call ∷ calls) =
    numbers-after_calls (effect call.patch world call.script) calls ∙ installed_stay call.patch world call.script

pub one_of-numbers : (patch : ℕ) (list : List Installed) → is_one_of patch (numbers list) ≡ is_among patch list
one_of-numbers patch [] = refl
one_of-numbers patch (first ∷ list) = ap (λ b. first.patch == patch || b) (one_of-numbers patch list)

pub equal_either_way : (a b : ℕ) → (a == b) ≡ (b == a)
equal_either_way a b = grind (arith, nat_tests)

pub one_of-put : (patch : ℕ) (patches : List ℕ) → is_one_of patch (patches ++ patch ∷ []) ≡ true
one_of-put patch [] = ap (λ b. b || false) (eq-eqb patch patch refl)
one_of-put patch (first ∷ patches) = ap (λ b. first == patch || b) (one_of-put patch patches) ∙ or-true (first == patch)

one_of-put_other : (patch other : ℕ) (patches : List ℕ) → is_one_of other patches ≡ false → (patch == other) ≡ false → is_one_of other (patches ++ patch ∷ []) ≡ false
one_of-put_other patch other [] none apart = ap (λ b. b || false) apart
one_of-put_other patch other (first ∷ patches) none apart =
    let parts = or_parts (first == other) (is_one_of other patches) none in
    ap (λ b. b || is_one_of other (patches ++ patch ∷ [])) parts.0 ∙ one_of-put_other patch other patches parts.1 apart

pub distinct-put : (patch : ℕ) (patches : List ℕ) → AreDistinct patches → is_one_of patch patches ≡ false → AreDistinct (patches ++ patch ∷ [])
distinct-put patch [] distinct away = (refl, tt)
distinct-put patch (first ∷ patches) distinct away =
    let parts = or_parts (first == patch) (is_one_of patch patches) away in
    (one_of-put_other patch first patches distinct.0 (equal_either_way patch first ∙ parts.0), distinct-put patch patches distinct.1 parts.1)

one_of-left_out : (patch other : ℕ) (patches : List ℕ) → is_one_of other patches ≡ false → is_one_of other (left_out patch patches) ≡ false
one_of-left_out patch other [] none = refl
one_of-left_out patch other (first ∷ patches) none =
    let parts = or_parts (first == other) (is_one_of other patches) none in
    by (first == patch) parts.0 parts.1 (one_of-left_out patch other patches parts.1)
  where
    by : (t : Bool) → (first == other) ≡ false → is_one_of other patches ≡ false → is_one_of other (left_out patch patches) ≡ false
        → is_one_of other (cond t patches (first ∷ left_out patch patches)) ≡ false
    by true e none rest = none
    by false e none rest = ap (λ b. b || is_one_of other (left_out patch patches)) e ∙ rest

pub distinct-left_out : (patch : ℕ) (patches : List ℕ) → AreDistinct patches → AreDistinct (left_out patch patches)
distinct-left_out patch [] distinct = tt
distinct-left_out patch (first ∷ patches) distinct = by (first == patch) (distinct-left_out patch patches distinct.1)
  where
    by : (t : Bool) → AreDistinct (left_out patch patches) → AreDistinct (cond t patches (first ∷ left_out patch patches))
    by true rest = distinct.1
    by false rest = (one_of-left_out patch first patches distinct.0, rest)

pub distinct-from_on : (patch : ℕ) (patches : List ℕ) → AreDistinct patches → AreDistinct (from_on patch patches)
distinct-from_on patch [] distinct = tt
distinct-from_on patch (first ∷ patches) distinct = by (first == patch) (distinct-from_on patch patches distinct.1)
  where
    by : (t : Bool) → AreDistinct (from_on patch patches) → AreDistinct (cond t (first ∷ patches) (from_on patch patches))
    by true rest = distinct
    by false rest = rest

-- patches of the catalog
module _ (setting : Setting) (patch : ℕ) where
  pub known-put : (patches : List ℕ) → AreKnown setting patches → has_patch setting patch ≡ true → AreKnown setting (patches ++ patch ∷ [])
  known-put [] known own = (own, tt)
  known-put (first ∷ patches) known own = (known.0, known-put patches known.1 own)

  pub known-left_out : (patches : List ℕ) → AreKnown setting patches → AreKnown setting (left_out patch patches)
  known-left_out [] known = tt
  known-left_out (first ∷ patches) known = by (first == patch) (known-left_out patches known.1)
    where
      by : (t : Bool) → AreKnown setting (left_out patch patches) → AreKnown setting (cond t patches (first ∷ left_out patch patches))
      by true rest = known.1
      by false rest = (known.0, rest)

  pub known-from_on : (patches : List ℕ) → AreKnown setting patches → AreKnown setting (from_on patch patches)
  known-from_on [] known = tt
  known-from_on (first ∷ patches) known = by (first == patch) (known-from_on patches known.1)
    where
      by : (t : Bool) → AreKnown setting (from_on patch patches) → AreKnown setting (cond t (first ∷ patches) (from_on patch patches))
      by true rest = known
      by false rest = rest

-- Stacks of patches.
module _ (setting : Setting) where
  -- where nothing moves, no patch above the oldest replaces: anything may start to move
  above_started : (moving : Option Transition) (patches : List ℕ) → AreAbove setting None patches → AreAbove setting moving patches
  above_started moving [] above = tt
  above_started moving (first ∷ patches) above =
      ((λ e. let never : false ≡ true = (above.0 e).1 in absurd (both_ways false refl never)), above_started moving patches above.1)

  pub stacked_started : (moving : Option Transition) (patches : List ℕ) → AreStacked setting None patches → AreStacked setting moving patches
  stacked_started moving [] stacked = tt
  stacked_started moving (oldest ∷ patches) stacked = above_started moving patches stacked

  above_put : (patch : ℕ) (target : Bool) (patches : List ℕ) → AreAbove setting None patches
      → AreAbove setting (Some (record { patch = patch; target = target })) (patches ++ patch ∷ [])
  above_put patch target [] above = ((λ e. (refl, eq-eqb patch patch refl)), tt)
  above_put patch target (first ∷ patches) above =
      ((λ e. let never : false ≡ true = (above.0 e).1 in absurd (both_ways false refl never)), above_put patch target patches above.1)

  pub stacked_put : (patch : ℕ) (target : Bool) (patches : List ℕ) → AreStacked setting None patches
      → AreStacked setting (Some (record { patch = patch; target = target })) (patches ++ patch ∷ [])
  stacked_put patch target [] stacked = tt
  stacked_put patch target (oldest ∷ patches) stacked = above_put patch target patches stacked

  module _ (move : Transition) where
    -- only the target matters not
    above_turned : (target : Bool) (patches : List ℕ) → AreAbove setting (Some move) patches → AreAbove setting (Some (record { patch = move.patch; target = target })) patches
    above_turned target [] above = tt
    above_turned target (first ∷ patches) above = (above.0, above_turned target patches above.1)

    pub stacked_turned : (target : Bool) (patches : List ℕ) → AreStacked setting (Some move) patches → AreStacked setting (Some (record { patch = move.patch; target = target })) patches
    stacked_turned target [] stacked = tt
    stacked_turned target (oldest ∷ patches) stacked = above_turned target patches stacked

    -- patches that aren't the moving one don't replace
    above_others : (patches : List ℕ) → AreAbove setting (Some move) patches → is_one_of move.patch patches ≡ false → AreAbove setting None patches
    above_others [] above none = tt
    above_others (first ∷ patches) above none =
        let parts = or_parts (first == move.patch) (is_one_of move.patch patches) none in
        ((λ e. absurd (both_ways (move.patch == first) (equal_either_way move.patch first ∙ parts.0) (above.0 e).1)), above_others patches above.1 parts.1)

    above_left_out : (patches : List ℕ) → AreDistinct patches → AreAbove setting (Some move) patches → AreAbove setting None (left_out move.patch patches)
    above_left_out [] distinct above = tt
    above_left_out (first ∷ patches) distinct above = by (first == move.patch) refl (above_left_out patches distinct.1 above.1)
      where
        by : (t : Bool) → (first == move.patch) ≡ t → AreAbove setting None (left_out move.patch patches)
            → AreAbove setting None (cond t patches (first ∷ left_out move.patch patches))
        by true is rest = above_others patches above.1 (subst (λ p. is_one_of p patches ≡ false) (eqb-true first move.patch is) distinct.0)
        by false is rest = ((λ e. absurd (both_ways (move.patch == first) (equal_either_way move.patch first ∙ is) (above.0 e).1)), rest)

    above_stacked : (patches : List ℕ) → AreAbove setting None patches → AreStacked setting None patches
    above_stacked [] above = tt
    above_stacked (first ∷ patches) above = above.1

    -- the moving patch leaves
    pub stacked_left_out : (patches : List ℕ) → AreDistinct patches → AreStacked setting (Some move) patches → AreStacked setting None (left_out move.patch patches)
    stacked_left_out [] distinct stacked = tt
    stacked_left_out (oldest ∷ patches) distinct stacked = by (oldest == move.patch) refl
      where
        by : (t : Bool) → (oldest == move.patch) ≡ t → AreStacked setting None (cond t patches (oldest ∷ left_out move.patch patches))
        by true is = above_stacked patches (above_others patches stacked (subst (λ p. is_one_of p patches ≡ false) (eqb-true oldest move.patch is) distinct.0))
        by false is = above_left_out patches distinct.1 stacked

    from_above : (patches : List ℕ) → AreDistinct patches → AreAbove setting (Some move) patches → AreStacked setting None (from_on move.patch patches)
    from_above [] distinct above = tt
    from_above (first ∷ patches) distinct above = by (first == move.patch) refl (from_above patches distinct.1 above.1)
      where
        by : (t : Bool) → (first == move.patch) ≡ t → AreStacked setting None (from_on move.patch patches)
            → AreStacked setting None (cond t (first ∷ patches) (from_on move.patch patches))
        by true is rest = above_others patches above.1 (subst (λ p. is_one_of p patches ≡ false) (eqb-true first move.patch is) distinct.0)
        by false is rest = rest

    -- the older patches leave
    pub stacked_from_on : (patches : List ℕ) → AreDistinct patches → AreStacked setting (Some move) patches → AreStacked setting None (from_on move.patch patches)
    stacked_from_on [] distinct stacked = tt
    stacked_from_on (oldest ∷ patches) distinct stacked = by (oldest == move.patch) refl
      where
        by : (t : Bool) → (oldest == move.patch) ≡ t → AreStacked setting None (cond t (oldest ∷ patches) (from_on move.patch patches))
        by true is = above_others patches stacked (subst (λ p. is_one_of p patches ≡ false) (eqb-true oldest move.patch is) distinct.0)
        by false is = from_above patches distinct.1 stacked

    -- a patch that doesn't replace has settled
    above_settled : (patches : List ℕ) → replaces setting move.patch ≡ false → AreAbove setting (Some move) patches → AreAbove setting None patches
    above_settled [] plain above = tt
    above_settled (first ∷ patches) plain above =
        ((λ e. absurd (both_ways (replaces setting move.patch) plain (subst (λ p. replaces setting p ≡ true) (sym (eqb-true move.patch first (above.0 e).1)) e))), above_settled patches plain above.1)

    pub stacked_settled : (patches : List ℕ) → replaces setting move.patch ≡ false → AreStacked setting (Some move) patches → AreStacked setting None patches
    stacked_settled [] plain stacked = tt
    stacked_settled (oldest ∷ patches) plain stacked = above_settled patches plain stacked
