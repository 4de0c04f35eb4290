-- What is the same, and how long it lasts.
use Rattle.std.proofs.Common.{◌≡◌, ℕ, zero, suc, ◌+◌, ◌<◌, ◌≤◌, Bool, true, false, ◌&&◌, cond, List, [], ◌∷◌, length, Option, Some, None, refl, sym, ap, subst, ◌∙◌, arith}
use Rattle.std.specs.Prelude.{◌==◌, IfSome}
use Rattle.std.proofs.lemmas.Bool.{eq-eqb, eqb-true}
use Rattle.klp_types.specs.declared.version.Version.{Version}
use Rattle.klp_types.specs.declared.version.Version.TheVariants.{Original, New}
use Rattle.klp_types.specs.declared.version.Transition.{Transition}
use Rattle.klp_model.specs.Blocked.{is_version}
use Rattle.klp_timeline.specs.declared.moment.Moment.{Moment}
use Rattle.klp_timeline.specs.declared.moment.Stay.{Stay}
use Rattle.klp_timeline.specs.declared.moment.Stay.TheVariants.{Holds, Outdated}
use Rattle.klp_timeline.specs.Stays.{is_way, is_same_transition_as, is_same_stay_as, is_in_stay, stay_at, until}
use Rattle.klp_timeline.specs.Telling.{seen_after}

-- what is the same
same_version : (a b : Version) → is_version a b ≡ true → a ≡ b
same_version (Original site) (Original other) e = ap Original (eqb-true site other e)
same_version (Original site) (New patch function) e = cc
same_version (New patch function) (Original site) e = cc
same_version (New patch function) (New other number) e = by (patch == other) refl e
  where
    by : (t : Bool) → (patch == other) ≡ t → (t && function == number) ≡ true → New patch function ≡ New other number
    by true is e = ap (λ p. New p function) (eqb-true patch other is) ∙ ap (λ n. New other n) (eqb-true function number e)
    by false is e = cc

same_way : (a b : Bool) → is_way a b ≡ true → a ≡ b
same_way true true e = refl
same_way true false e = cc
same_way false true e = cc
same_way false false e = refl

pub same_transition : (a b : Transition) → is_same_transition_as a b ≡ true → a ≡ b
same_transition a b e = by (a.patch == b.patch) refl e
  where
    by : (t : Bool) → (a.patch == b.patch) ≡ t → (t && is_way a.target b.target) ≡ true → a ≡ b
    by true is e = ap (λ p. record a { patch = p }) (eqb-true a.patch b.patch is) ∙ ap (λ t. record b { target = t }) (same_way a.target b.target e)
    by false is e = cc

pub same_stay : (a b : Stay) → is_same_stay_as a b ≡ true → a ≡ b
same_stay (Holds move version) (Holds other frame) e = by (is_same_transition_as move other) refl e
  where
    by : (t : Bool) → is_same_transition_as move other ≡ t → (t && is_version version frame) ≡ true → Holds move version ≡ Holds other frame
    by true is e = ap (λ m. Holds m version) (same_transition move other is) ∙ ap (λ v. Holds other v) (same_version version frame e)
    by false is e = cc
same_stay (Holds move version) (Outdated frame) e = cc
same_stay (Outdated version) (Holds other frame) e = cc
same_stay (Outdated version) (Outdated frame) e = ap Outdated (same_version version frame e)

is_own_version : (a : Version) → is_version a a ≡ true
is_own_version (Original site) = eq-eqb site site refl
is_own_version (New patch function) = ap (λ b. b && function == function) (eq-eqb patch patch refl) ∙ eq-eqb function function refl

is_own_way : (a : Bool) → is_way a a ≡ true
is_own_way true = refl
is_own_way false = refl

is_own_transition : (a : Transition) → is_same_transition_as a a ≡ true
is_own_transition a = ap (λ b. b && is_way a.target a.target) (eq-eqb a.patch a.patch refl) ∙ is_own_way a.target

pub is_own_stay : (a : Stay) → is_same_stay_as a a ≡ true
is_own_stay (Holds move version) = ap (λ b. b && is_version version version) (is_own_transition move) ∙ is_own_version version
is_own_stay (Outdated version) = is_own_version version

pub seen_is : (stay : Stay) (seen : Option Stay) → is_in_stay stay seen ≡ true → seen ≡ Some stay
seen_is stay None e = cc
seen_is stay (Some other) e = ap Some (sym (same_stay stay other e))

pub is_seen_of : (stay : Stay) (seen : Option Stay) → seen ≡ Some stay → is_in_stay stay seen ≡ true
is_seen_of stay seen e = ap (is_in_stay stay) e ∙ is_own_stay stay

-- a stay is seen after each of the first lines of these
abbrev pub Lasts : ℕ → Stay → List Moment → ℕ → Type 0
Lasts task stay rest zero = Unit {0}
Lasts task stay [] (suc count) = ⊥
Lasts task stay (moment ∷ rest) (suc count) = (is_in_stay stay (stay_at moment.view.stays task) ≡ true) × Lasts task stay rest count

pub until_lasts : (task : ℕ) (stay : Stay) (line : ℕ) (rest : List Moment) (count : ℕ) → Lasts task stay rest count → IfSome (until task stay line rest) (λ to. line + count ≤ to)
until_lasts task stay line [] count lasts = tt
until_lasts task stay line (moment ∷ rest) zero lasts = by (is_in_stay stay (stay_at moment.view.stays task)) (until_lasts task stay (suc line) rest zero tt)
  where
    weaker : (to : Option ℕ) → IfSome to (λ to. suc line + zero ≤ to) → IfSome to (λ to. line + zero ≤ to)
    weaker None le = tt
    weaker (Some to) le = omega arith

    by : (b : Bool) → IfSome (until task stay (suc line) rest) (λ to. suc line + zero ≤ to)
        → IfSome (cond b (until task stay (suc line) rest) (Some line)) (λ to. line + zero ≤ to)
    by true le = weaker (until task stay (suc line) rest) le
    by false le = omega arith
until_lasts task stay line (moment ∷ rest) (suc count) lasts =
    subst (λ b. IfSome (cond b (until task stay (suc line) rest) (Some line)) (λ to. line + suc count ≤ to)) (sym lasts.0)
    (weaker (until task stay (suc line) rest) (until_lasts task stay (suc line) rest count lasts.1))
  where
    weaker : (to : Option ℕ) → IfSome to (λ to. suc line + count ≤ to) → IfSome to (λ to. line + suc count ≤ to)
    weaker None le = tt
    weaker (Some to) le = omega arith

-- after each line up to the last one of a stay it is seen
pub until_true : (task : ℕ) (stay : Stay) (line : ℕ) (rest : List Moment) (index : ℕ) → index < length rest
    → IfSome (until task stay line rest) (λ to. line + suc index ≤ to) → seen_after rest index task ≡ Some stay
until_true task stay line [] index short within = absurd (none short)
  where
    none : index < 0 → ⊥
    none lt = omega arith
until_true task stay line (moment ∷ rest) zero short within =
    by (is_in_stay stay (stay_at moment.view.stays task)) refl within
  where
    by : (b : Bool) → is_in_stay stay (stay_at moment.view.stays task) ≡ b
        → IfSome (cond b (until task stay (suc line) rest) (Some line)) (λ to. line + suc zero ≤ to) → stay_at moment.view.stays task ≡ Some stay
    by true is within = seen_is stay (stay_at moment.view.stays task) is
    by false is within = absurd (beyond within)
      where
        beyond : line + suc zero ≤ line → ⊥
        beyond le = omega arith
until_true task stay line (moment ∷ rest) (suc index) short within =
    by (is_in_stay stay (stay_at moment.view.stays task)) (until_true task stay (suc line) rest index (shorter short)) within
  where
    weaker : (to : Option ℕ) → IfSome to (λ to. line + suc (suc index) ≤ to) → IfSome to (λ to. suc line + suc index ≤ to)
    weaker None le = tt
    weaker (Some to) le = omega arith

    shorter : suc index < suc (length rest) → index < length rest
    shorter lt = omega arith

    by : (b : Bool) → (IfSome (until task stay (suc line) rest) (λ to. suc line + suc index ≤ to) → seen_after rest index task ≡ Some stay)
        → IfSome (cond b (until task stay (suc line) rest) (Some line)) (λ to. line + suc (suc index) ≤ to) → seen_after rest index task ≡ Some stay
    by true later within = later (weaker (until task stay (suc line) rest) within)
    by false later within = absurd (beyond within)
      where
        beyond : line + suc (suc index) ≤ line → ⊥
        beyond le = omega arith
