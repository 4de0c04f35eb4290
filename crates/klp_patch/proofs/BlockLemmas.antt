-- What is blocked at all sites, and at those of a patch's functions.
use Rattle.std.proofs.Common.{◌≡◌, ℕ, zero, suc, ◌+◌, ◌<◌, ◌≤◌, Bool, true, false, List, [], ◌∷◌, ◌++◌, length, get_or, take, map, refl, sym, ap, subst, ◌∙◌, arith, Option, Some, None, eqb, inl, inr, append_assoc}
use Rattle.std.specs.Prelude.{cond, option_map}
use Rattle.std.specs.Option.{is_some, IfSome}
use Rattle.std.specs.List.{list_any}
use Rattle.std.proofs.lemmas.Bool.{eqb-true, or_cases, or_parts, or_left, or_right, cond-false}
use Rattle.std.proofs.lemmas.List.{append-nil}
use Rattle.std.proofs.lemmas.List.Elements.{All-head, All-tail}
use Rattle.std.proofs.lemmas.List.Folds.{list_any-append}
use Rattle.klp_types.specs.declared.limits.TheConstants.{MAX_SITES, MAX_PATCHES, MAX_FUNCTIONS}
use Rattle.klp_types.specs.declared.version.Version.{Version}
use Rattle.klp_types.specs.declared.version.Entry.{Entry}
use Rattle.klp_types.specs.declared.version.Transition.{Transition}
use Rattle.klp_types.specs.Image.{Symbol}
use Rattle.klp_types.specs.Pick.{version_of, newest_version}
use Rattle.klp_types.specs.Setting.{Setting, function_for, is_at}
use Rattle.klp_model.specs.State.{State}
use Rattle.klp_model.specs.Entries.{entries_of}
use Rattle.klp_model.specs.Blocked.{held_version, blocked_among, blocked_from}
use Rattle.klp_catalog.specs.Catalog.{CatalogFunction, setting_function}
use Rattle.klp_stack.specs.Stack.{entries_at, has_entry, IsStack}
use Rattle.klp_sites.specs.Table.{is_stacked, is_hooked_at}
use Rattle.klp_tasks.specs.Members.{IsWithin}
use Rattle.klp_patch.specs.Blocked.{blocked_at, AreFunctions}
use Rattle.klp_patch.proofs.SiteLemmas.{Entries}

-- the stacks of a state, from this site on
pub same_blocked : (setting : Setting) (state : State) (move : Transition) (site : ℕ) (stacks : List Entries) (symbols : List Symbol) → length stacks ≡ length symbols
    → ((later : ℕ) → entries_at stacks later ≡ entries_of setting state (site + later)) → blocked_at site move stacks ≡ blocked_from setting state move site symbols
same_blocked setting state move site [] [] count same = refl
same_blocked setting state move site [] (symbol ∷ symbols) count same = absurd (omega arith)
same_blocked setting state move site (entries ∷ stacks) [] count same = absurd (omega arith)
same_blocked setting state move site (entries ∷ stacks) (symbol ∷ symbols) count same =
    let here : site + 0 ≡ site = omega arith in
    let first : entries ≡ entries_of setting state site = same 0 ∙ ap (entries_of setting state) here in
    ap (λ es. blocked_among site move es ++ blocked_at (suc site) move stacks) first
    ∙ ap (λ rest. blocked_among site move (entries_of setting state site) ++ rest)
    (same_blocked setting state move (suc site) stacks symbols (omega arith) (λ later. same (suc later) ∙ (let next : site + suc later ≡ suc site + later = omega arith in ap (entries_of setting state) next)))

-- a version of entries that there may be
version_within : (site patch : ℕ) (func : Option ℕ) → site < MAX_SITES → patch < MAX_PATCHES → IfSome func (λ f. f < MAX_FUNCTIONS) → IsWithin (version_of site func patch)
version_within site patch None there number function = there
version_within site patch (Some f) there number function = (number, function)

newest_within : (site : ℕ) (entries : Entries) → site < MAX_SITES → IsStack entries → AreFunctions entries → IsWithin (newest_version site entries)
newest_within site [] there stack functions = there
newest_within site (entry ∷ older) there stack functions = version_within site entry.patch entry.func there stack.0 (All-head (λ (e : Entry). IfSome e.func (λ f. f < MAX_FUNCTIONS)) entry older functions)

held_within : (site : ℕ) (target : Bool) (entry : Entry) (older : Entries) → site < MAX_SITES → IsStack (entry ∷ older) → AreFunctions (entry ∷ older) → IsWithin (held_version site target entry older)
held_within site true entry older there stack functions = newest_within site older there stack.2 (All-tail (λ (e : Entry). IfSome e.func (λ f. f < MAX_FUNCTIONS)) entry older functions)
held_within site false entry older there stack functions = newest_within site (entry ∷ older) there stack functions

one_of : (v held : Version) → v ∷ [] ≡ held ∷ [] → v ≡ held
one_of v held is = cc

pub blocked_within : (site : ℕ) (move : Transition) (v : Version) (entries : Entries) → site < MAX_SITES → IsStack entries → AreFunctions entries → v ∷ [] ≡ blocked_among site move entries → IsWithin v
blocked_within site move v [] there stack functions is = cc
blocked_within site move v (entry ∷ older) there stack functions is = elim (eqb entry.patch move.patch) as
    (λ b. v ∷ [] ≡ cond b (held_version site move.target entry older ∷ []) (blocked_among site move older) → IsWithin v) [
      | true ↦ λ e. subst IsWithin (sym (one_of v (held_version site move.target entry older) e)) (held_within site move.target entry older there stack functions)
      | false ↦ λ e. blocked_within site move v older there stack.2 (All-tail (λ (e : Entry). IfSome e.func (λ f. f < MAX_FUNCTIONS)) entry older functions) e
    ] is

pub none_blocked : (site : ℕ) (move : Transition) (entries : Entries) → has_entry move.patch entries ≡ false → blocked_among site move entries ≡ []
none_blocked site move [] none = refl
none_blocked site move (entry ∷ older) none =
    let parts = or_parts (eqb entry.patch move.patch) (has_entry move.patch older) none in
    cond-false _ _ _ parts.0 ∙ none_blocked site move older parts.1

-- the sites up to one more
pub blocked_more : (n : ℕ) (move : Transition) (stacks : List Entries) (i : ℕ) → i < length stacks
    → blocked_at n move (take (suc i) stacks) ≡ blocked_at n move (take i stacks) ++ blocked_among (n + i) move (entries_at stacks i)
blocked_more n move [] i below = absurd (omega arith)
blocked_more n move (entries ∷ stacks) zero below =
    let here : n ≡ n + 0 = omega arith in
    append-nil (blocked_among n move entries) ∙ ap (λ k. blocked_among k move entries) here
blocked_more n move (entries ∷ stacks) (suc i) below =
    let next : suc n + i ≡ n + suc i = omega arith in
    ap (λ rest. blocked_among n move entries ++ rest) (blocked_more (suc n) move stacks i (omega arith) ∙ ap (λ k. blocked_at (suc n) move (take i stacks) ++ blocked_among k move (entries_at stacks i)) next)
    ∙ sym (append_assoc (blocked_among n move entries) (blocked_at (suc n) move (take i stacks)) (blocked_among (n + suc i) move (entries_at stacks i)))

-- nothing is blocked where there are no entries
pub blocked_past : (n : ℕ) (move : Transition) (stacks : List Entries) (from to : ℕ) → from ≤ to → ((site : ℕ) → from ≤ site → site < to → is_hooked_at stacks site ≡ false)
    → blocked_at n move (take from stacks) ≡ blocked_at n move (take to stacks)
blocked_past n move [] zero zero le none = refl
blocked_past n move [] zero (suc to) le none = refl
blocked_past n move [] (suc from) zero le none = absurd (omega arith)
blocked_past n move [] (suc from) (suc to) le none = refl
blocked_past n move (entries ∷ stacks) zero zero le none = refl
blocked_past n move (entries ∷ stacks) zero (suc to) le none =
    blocked_past (suc n) move stacks zero to (omega arith) (λ site since below. none (suc site) (omega arith) (omega arith))
    ∙ ap (λ seen. blocked_among n move seen ++ blocked_at (suc n) move (take to stacks)) (sym (no_entry entries (none 0 (omega arith) (omega arith))))
  where
    no_entry : (entries : Entries) → is_stacked entries ≡ false → entries ≡ []
    no_entry [] none = refl
    no_entry (entry ∷ older) none = cc
blocked_past n move (entries ∷ stacks) (suc from) zero le none = absurd (omega arith)
blocked_past n move (entries ∷ stacks) (suc from) (suc to) le none =
    ap (λ rest. blocked_among n move entries ++ rest) (blocked_past (suc n) move stacks from to (omega arith) (λ site since below. none (suc site) (omega arith) (omega arith)))

-- Some version that passes a test is blocked.
module _ (test : Version → Bool) (move : Transition) where
  -- at a site, and so among all
  pub blocked_in : (n : ℕ) (stacks : List Entries) (k : ℕ) → list_any test (blocked_among (n + k) move (entries_at stacks k)) ≡ true → list_any test (blocked_at n move stacks) ≡ true
  blocked_in n [] k some = cc
  blocked_in n (entries ∷ stacks) zero some =
      let here : n + 0 ≡ n = omega arith in
      list_any-append test (blocked_among n move entries) (blocked_at (suc n) move stacks)
      ∙ or_left _ _ (ap (λ m. list_any test (blocked_among m move entries)) (sym here) ∙ some)
  blocked_in n (entries ∷ stacks) (suc k) some =
      let next : suc n + k ≡ n + suc k = omega arith in
      list_any-append test (blocked_among n move entries) (blocked_at (suc n) move stacks)
      ∙ or_right _ _ (blocked_in (suc n) stacks k (ap (λ m. list_any test (blocked_among m move (entries_at stacks k))) next ∙ some))

  -- among all, and so at a site
  pub blocked_out : (n : ℕ) (stacks : List Entries) → list_any test (blocked_at n move stacks) ≡ true → (k : ℕ) × (list_any test (blocked_among (n + k) move (entries_at stacks k)) ≡ true)
  blocked_out n [] some = cc
  blocked_out n (entries ∷ stacks) some =
      elim (or_cases (list_any test (blocked_among n move entries)) (list_any test (blocked_at (suc n) move stacks)) (sym (list_any-append test (blocked_among n move entries) (blocked_at (suc n) move stacks)) ∙ some)) [
        | inl here ↦ (let same : n + 0 ≡ n = omega arith in (0, ap (λ m. list_any test (blocked_among m move entries)) same ∙ here))
        | inr later ↦ (let found = blocked_out (suc n) stacks later in
            let next : n + suc found.0 ≡ suc n + found.0 = omega arith in
            (suc found.0, ap (λ m. list_any test (blocked_among m move (entries_at stacks found.0))) next ∙ found.1))
      ]

  pub has_entry_where : (site : ℕ) (entries : Entries) → list_any test (blocked_among site move entries) ≡ true → has_entry move.patch entries ≡ true
  has_entry_where site entries some = elim (has_entry move.patch entries) as (λ b. has_entry move.patch entries ≡ b → b ≡ true) [
    | true ↦ λ e. refl
    | false ↦ λ e. sym (ap (list_any test) (none_blocked site move entries e)) ∙ some
  ] refl

-- what is blocked at the sites of functions
abbrev pub blocked_if : Transition → List Entries → Option ℕ → List Version
blocked_if move stacks None = []
blocked_if move stacks (Some site) = blocked_among site move (entries_at stacks site)

abbrev pub blocked_by : Transition → List Entries → List CatalogFunction → List Version
blocked_by move stacks [] = []
blocked_by move stacks (f ∷ functions) = blocked_if move stacks f.site ++ blocked_by move stacks functions

pub blocked_by_more : (move : Transition) (stacks : List Entries) (functions : List CatalogFunction) (i : ℕ) (d : CatalogFunction) → i < length functions
    → blocked_by move stacks (take (suc i) functions) ≡ blocked_by move stacks (take i functions) ++ blocked_if move stacks (get_or functions i d).site
blocked_by_more move stacks [] i d below = absurd (omega arith)
blocked_by_more move stacks (f ∷ functions) zero d below = append-nil (blocked_if move stacks f.site)
blocked_by_more move stacks (f ∷ functions) (suc i) d below =
    ap (λ rest. blocked_if move stacks f.site ++ rest) (blocked_by_more move stacks functions i d (omega arith))
    ∙ sym (append_assoc (blocked_if move stacks f.site) (blocked_by move stacks (take i functions)) (blocked_if move stacks (get_or functions i d).site))

same_bool : (a b : Bool) → (a ≡ true → b ≡ true) → (b ≡ true → a ≡ true) → a ≡ b
same_bool true b there back = sym (there refl)
same_bool false true there back = back refl
same_bool false false there back = refl

module _ (test : Version → Bool) (move : Transition) (stacks : List Entries) where
  site_in : (site : Option ℕ) → list_any test (blocked_if move stacks site) ≡ true → list_any test (blocked_at 0 move stacks) ≡ true
  site_in None some = cc
  site_in (Some site) some =
      let here : 0 + site ≡ site = omega arith in
      blocked_in test move 0 stacks site (ap (λ m. list_any test (blocked_among m move (entries_at stacks site))) here ∙ some)

  functions_in_all : (functions : List CatalogFunction) → list_any test (blocked_by move stacks functions) ≡ true → list_any test (blocked_at 0 move stacks) ≡ true
  functions_in_all [] some = cc
  functions_in_all (f ∷ functions) some =
      elim (or_cases (list_any test (blocked_if move stacks f.site)) (list_any test (blocked_by move stacks functions)) (sym (list_any-append test (blocked_if move stacks f.site) (blocked_by move stacks functions)) ∙ some)) [
        | inl here ↦ site_in f.site here
        | inr later ↦ functions_in_all functions later
      ]

  its_own : (own : Option ℕ) (site : ℕ) → is_at own site ≡ true → list_any test (blocked_among site move (entries_at stacks site)) ≡ true → list_any test (blocked_if move stacks own) ≡ true
  its_own None site at some = cc
  its_own (Some own) site at some = subst (λ n. list_any test (blocked_among n move (entries_at stacks n)) ≡ true) (sym (eqb-true own site at)) some

  some_later : (own : Option ℕ) → is_some (option_map suc own) ≡ true → is_some own ≡ true
  some_later None some = some
  some_later (Some own) some = refl

  at_a_function : (functions : List CatalogFunction) (site : ℕ) → is_some (function_for (map setting_function functions) site) ≡ true
      → list_any test (blocked_among site move (entries_at stacks site)) ≡ true → list_any test (blocked_by move stacks functions) ≡ true
  at_a_function [] site there some = cc
  at_a_function (f ∷ functions) site there some = elim (is_at f.site site) as
      (λ b. is_at f.site site ≡ b → is_some (cond b (Some 0) (option_map suc (function_for (map setting_function functions) site))) ≡ true → list_any test (blocked_if move stacks f.site ++ blocked_by move stacks functions) ≡ true) [
        | true ↦ λ e h. list_any-append test (blocked_if move stacks f.site) (blocked_by move stacks functions) ∙ or_left _ _ (its_own f.site site e some)
        | false ↦ λ e h. list_any-append test (blocked_if move stacks f.site) (blocked_by move stacks functions)
            ∙ or_right _ _ (at_a_function functions site (some_later (function_for (map setting_function functions) site) h) some)
      ] refl there

  -- a patch that has entries at the sites of its functions alone blocks nothing elsewhere
  pub by_functions : (functions : List CatalogFunction) → ((site : ℕ) → has_entry move.patch (entries_at stacks site) ≡ true → is_some (function_for (map setting_function functions) site) ≡ true)
      → list_any test (blocked_by move stacks functions) ≡ list_any test (blocked_at 0 move stacks)
  by_functions functions own = same_bool (list_any test (blocked_by move stacks functions)) (list_any test (blocked_at 0 move stacks)) (functions_in_all functions) (λ some.
      let found = blocked_out test move 0 stacks some in
      let here : 0 + found.0 ≡ found.0 = omega arith in
      let at = ap (λ m. list_any test (blocked_among m move (entries_at stacks found.0))) (sym here) ∙ found.1 in
      at_a_function functions found.0 (own found.0 (has_entry_where test move found.0 (entries_at stacks found.0) at)) at)
