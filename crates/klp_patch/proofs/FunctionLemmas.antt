-- The functions of a patch, each with its number.
use Rattle.std.proofs.Common.{◌≡◌, ℕ, zero, suc, ◌+◌, ◌<◌, ◌≤◌, Bool, true, false, ◌&&◌, List, [], ◌∷◌, ◌++◌, length, get_or, map, refl, sym, ap, subst, ◌∙◌, arith, Option, Some, None, eqb, ltb}
use Rattle.std.specs.Prelude.{cond, option_map}
use Rattle.std.specs.Option.{is_some}
use Rattle.std.specs.List.{list_any}
use Rattle.std.proofs.lemmas.Bool.{eqb-true, eqb-false, eq-eqb, ne_eqb, lt-ltb, le-ltb, ltb-true, ltb-false, or_parts}
use Rattle.std.proofs.lemmas.List.Folds.{list_any_at}
use Rattle.klp_types.specs.Setting.{Function, function_for, is_at}
use Rattle.klp_types.specs.Entries.{entry_of}
use Rattle.klp_stack.specs.Stack.{has_entry}
use Rattle.klp_catalog.specs.Catalog.{CatalogFunction, setting_function, is_same_site, has_same_site}
use Rattle.klp_patch.proofs.SiteLemmas.{Entries}

-- whether a site's function has this number, or a lower one
abbrev pub is_number : Option ℕ → ℕ → Bool
is_number None i = false
is_number (Some own) i = eqb own i

abbrev pub is_below : Option ℕ → ℕ → Bool
is_below None i = false
is_below (Some own) i = ltb own i

abbrev pub place : List CatalogFunction → ℕ → Option ℕ
place functions site = function_for (map setting_function functions) site

none_passes : {A : Type 0} (test : A → Bool) (xs : List A) (i : ℕ) (d : A) → i < length xs → list_any test xs ≡ false → test (get_or xs i d) ≡ false
none_passes test xs i d below none = elim (test (get_or xs i d)) as (λ b. test (get_or xs i d) ≡ b → b ≡ false) [
  | true ↦ λ e. sym (list_any_at test xs i d below e) ∙ none
  | false ↦ λ e. refl
] refl

first_number : (own : Option ℕ) → is_number (option_map suc own) 0 ≡ false
first_number None = refl
first_number (Some own) = ne_eqb (suc own) 0 (λ e. absurd (omega arith))

same_after : (a b : ℕ) → eqb (suc a) (suc b) ≡ eqb a b
same_after a b = elim (eqb a b) as (λ t. eqb a b ≡ t → eqb (suc a) (suc b) ≡ t) [
  | true ↦ λ e. eq-eqb (suc a) (suc b) (ap suc (eqb-true a b e))
  | false ↦ λ e. ne_eqb (suc a) (suc b) (λ is. eqb-false a b e (let same : a ≡ b = omega arith in same))
] refl

below_after : (a b : ℕ) → ltb (suc a) (suc b) ≡ ltb a b
below_after a b = elim (ltb a b) as (λ t. ltb a b ≡ t → ltb (suc a) (suc b) ≡ t) [
  | true ↦ λ e. let below : a < b = ltb-true a b e in lt-ltb (suc a) (suc b) (omega arith)
  | false ↦ λ e. let past : b ≤ a = ltb-false a b e in le-ltb (suc a) (suc b) (omega arith)
] refl

later_number : (own : Option ℕ) (i : ℕ) → is_number (option_map suc own) (suc i) ≡ is_number own i
later_number None i = refl
later_number (Some own) i = same_after own i

-- no later function is for the site of the first
apart_from : (own other : Option ℕ) (site : ℕ) → is_at own site ≡ true → is_same_site own other ≡ false → is_at other site ≡ false
apart_from None other site at apart = cc
apart_from (Some own) other site at apart = subst (λ n. is_at other n ≡ false) (eqb-true own site at) apart

-- where no two functions are for one site, the function of a number is for the sites that have this number
pub at_its_number : (functions : List CatalogFunction) (i : ℕ) (d : CatalogFunction) (site : ℕ) → has_same_site functions ≡ false → i < length functions
    → is_at (get_or functions i d).site site ≡ is_number (place functions site) i
at_its_number [] i d site distinct below = absurd (omega arith)
at_its_number (f ∷ functions) zero d site distinct below = elim (is_at f.site site) as (λ b. b ≡ is_number (cond b (Some 0) (option_map suc (place functions site))) 0) [
  | true ↦ refl
  | false ↦ sym (first_number (place functions site))
]
at_its_number (f ∷ functions) (suc i) d site distinct below =
    let parts = or_parts (list_any (λ (later : CatalogFunction). is_same_site f.site later.site) functions) (has_same_site functions) distinct in
    let within : i < length functions = omega arith in
    elim (is_at f.site site) as (λ b. is_at f.site site ≡ b → is_at (get_or functions i d).site site ≡ is_number (cond b (Some 0) (option_map suc (place functions site))) (suc i)) [
      | true ↦ λ e. apart_from f.site (get_or functions i d).site site e (none_passes (λ (later : CatalogFunction). is_same_site f.site later.site) functions i d within parts.0) ∙ sym (ne_eqb 0 (suc i) (λ is. absurd (omega arith)))
      | false ↦ λ e. at_its_number functions i d site parts.1 within ∙ sym (later_number (place functions site) i)
    ] refl

-- all numbers are below the number of functions
pub all_below : (functions : List Function) (site : ℕ) → is_below (function_for functions site) (length functions) ≡ is_some (function_for functions site)
all_below [] site = refl
all_below (f ∷ functions) site = elim (is_at f.site site) as
    (λ b. is_below (cond b (Some 0) (option_map suc (function_for functions site))) (suc (length functions)) ≡ is_some (cond b (Some 0) (option_map suc (function_for functions site)))) [
      | true ↦ lt-ltb 0 (suc (length functions)) (omega arith)
      | false ↦ more (function_for functions site) ∙ all_below functions site ∙ same (function_for functions site)
    ]
  where
    more : (own : Option ℕ) → is_below (option_map suc own) (suc (length functions)) ≡ is_below own (length functions)
    more None = refl
    more (Some own) = below_after own (length functions)

    same : (own : Option ℕ) → is_some own ≡ is_some (option_map suc own)
    same None = refl
    same (Some own) = refl

-- Function by function: those below a number are done.
next_number : (k i : ℕ) (make step : Entries → Entries) (entries : Entries) → (k ≡ i → step entries ≡ make entries)
    → cond (eqb k i) (step (cond (ltb k i) (make entries) entries)) (cond (ltb k i) (make entries) entries) ≡ cond (ltb k (i + 1)) (make entries) entries
next_number k i make step entries same = elim (eqb k i) as
    (λ b. eqb k i ≡ b → cond b (step (cond (ltb k i) (make entries) entries)) (cond (ltb k i) (make entries) entries) ≡ cond (ltb k (i + 1)) (make entries) entries) [
      | true ↦ λ e. let here : k ≡ i = eqb-true k i e in
          rw (le-ltb k i (omega arith), lt-ltb k (i + 1) (omega arith)) (same here)
      | false ↦ λ e. let other : k ≡ i → ⊥ = eqb-false k i e in elim (ltb k i) as (λ b. ltb k i ≡ b → cond b (make entries) entries ≡ cond (ltb k (i + 1)) (make entries) entries) [
        | true ↦ λ t. let below : k < i = ltb-true _ _ t in rw (lt-ltb k (i + 1) (omega arith)) refl
        | false ↦ λ t. let past : i ≤ k = ltb-false _ _ t in rw (le-ltb k (i + 1) (omega arith)) refl
      ] refl
    ] refl

pub next_function : (own covers : Bool) (number : Option ℕ) (i : ℕ) (make step : Entries → Entries) (entries : Entries) → own ≡ (covers && is_number number i)
    → (number ≡ Some i → step entries ≡ make entries)
    → cond own (step (cond (covers && is_below number i) (make entries) entries)) (cond (covers && is_below number i) (make entries) entries)
    ≡ cond (covers && is_below number (i + 1)) (make entries) entries
next_function own false number i make step entries is same = rw is refl
next_function own true None i make step entries is same = rw is refl
next_function own true (Some k) i make step entries is same = rw is (next_number k i make step entries (λ here. same (ap (λ n. Some n) here)))

-- what the functions below a number put on a site has an entry of the patch only where one of them is for it
pub fresh_number : (covers : Bool) (number : Option ℕ) (i patch : ℕ) (make : Entries → Entries) (entries : Entries) → (covers && is_number number i) ≡ true → (covers ≡ true → has_entry patch entries ≡ false)
    → has_entry patch (cond (covers && is_below number i) (make entries) entries) ≡ false
fresh_number false number i patch make entries at fresh = cc
fresh_number true None i patch make entries at fresh = cc
fresh_number true (Some k) i patch make entries at fresh =
    let here : k ≡ i = eqb-true k i at in
    rw (le-ltb k i (omega arith)) (fresh refl)

-- at last all functions are done
pub functions_put : (covers : Bool) (number : Option ℕ) (n patch : ℕ) (entries : Entries) → is_below number n ≡ is_some number
    → cond (covers && is_below number n) (entry_of patch number false ++ entries) entries ≡ cond covers (entry_of patch number false ++ entries) entries
functions_put false number n patch entries all = refl
functions_put true None n patch entries all = refl
functions_put true (Some k) n patch entries all = rw all refl
