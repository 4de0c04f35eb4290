-- The version that is run at a site, by the list of patches alone.
use Rattle.std.proofs.Common.{◌≡◌, ℕ, ℤ, pos, Bool, true, false, not, ◌&&◌, ◌||◌, cond, List, [], ◌∷◌, ◌++◌, reverse, Option, Some, None, refl, sym, ap, subst, ◌∙◌}
use Rattle.std.specs.Prelude.{◌==◌, if◌then◌else◌}
use Rattle.std.specs.List.{list_any}
use Rattle.std.proofs.lemmas.Bool.{eqb-true, or_parts, both_ways, or_right}
use Rattle.std.proofs.lemmas.Grind.{reverse_onto}
use Rattle.std.proofs.lemmas.List.{append-nil}
use Rattle.klp_types.specs.declared.version.Version.{Version}
use Rattle.klp_types.specs.declared.version.Entry.{Entry}
use Rattle.klp_types.specs.declared.version.Transition.{Transition}
use Rattle.klp_types.specs.Setting.{Setting, functions_of, function_for, replaces}
use Rattle.klp_types.specs.Entries.{entry_of, patches_site, entries_from, is_empty}
use Rattle.klp_types.specs.Pick.{moves, is_unpatched, entries_for, newest_version, target_of}
use Rattle.klp_types.proofs.EntryLemmas.{list_any-reverse, entries_from-any}
use Rattle.klp_model.specs.Allowed.{is_one_of, AreDistinct, Allowed}
use Rattle.klp_model.specs.State.{State, installed_patches}
use Rattle.klp_model.specs.Entries.{is_site_loaded}
use Rattle.klp_model.specs.Pick.{pick_in}
use Rattle.klp_model.specs.Versions.{chosen, version_in, others}
use Rattle.klp_model.proofs.OrderLemmas.{left_out, from_on, distinct-put, equal_either_way}

pub others_same : (patch : ℕ) (patches : List ℕ) → is_one_of patch patches ≡ false → others patch patches ≡ patches
others_same patch [] none = refl
others_same patch (first ∷ patches) none =
    let parts = or_parts (first == patch) (is_one_of patch patches) none in
    ap (λ b. cond b (others patch patches) (first ∷ others patch patches)) parts.0 ∙ ap (λ rest. first ∷ rest) (others_same patch patches parts.1)

pub nothing_in : {A : Type 0} (list : List A) → not (is_empty list) ≡ false → list ≡ []
nothing_in [] e = refl
nothing_in (x ∷ xs) e = cc

module _ (setting : Setting) (site : ℕ) where
  abbrev entries : List ℕ → List Entry
  entries patches = entries_from setting site patches

  -- the newest entry's version is that of the patches
  one_more : (patch : ℕ) (function : Option ℕ) (replace any : Bool) (older : List Entry) (version : Version)
      → not (is_empty older) ≡ any → newest_version site older ≡ version
      → newest_version site (entry_of patch function (replace && any) ++ older) ≡ chosen site patch function replace version
  one_more patch (Some function) replace any older version some is = refl
  one_more patch None true true older version some is = refl
  one_more patch None true false older version some is = ap (newest_version site) (nothing_in older some)
  one_more patch None false any older version some is = is

  pub newest_in : (patches : List ℕ) → newest_version site (entries patches) ≡ version_in setting site patches
  newest_in [] = refl
  newest_in (patch ∷ older) =
      one_more patch (function_for (functions_of setting patch) site) (replaces setting patch) (list_any (patches_site setting site) older)
      (entries older) (version_in setting site older) (entries_from-any setting site older) (newest_in older)

  -- a task that isn't brought to the moving patch runs what the other patches make
  passed_over : (move : Transition) (patch : ℕ) (function : Option ℕ) (replace any t : Bool) (older : List Entry) (version less : Version)
      → (patch == move.patch) ≡ t
      → not (is_empty older) ≡ any → newest_version site older ≡ version → newest_version site (entries_for (Some move) (pos 0) older) ≡ less
      → (t ≡ true → version ≡ less)
      → newest_version site (entries_for (Some move) (pos 0) (entry_of patch function (replace && any) ++ older)) ≡ cond t less (chosen site patch function replace less)
  passed_over move patch (Some function) replace any true older version less is some all rest same =
      ap (λ b. newest_version site (if b && true then older else record { patch = patch; func = Some function } ∷ older)) (equal_either_way move.patch patch ∙ is) ∙ all ∙ same refl
  passed_over move patch (Some function) replace any false older version less is some all rest same =
      ap (λ b. newest_version site (if b && true then older else record { patch = patch; func = Some function } ∷ older)) (equal_either_way move.patch patch ∙ is)
  passed_over move patch None true true true older version less is some all rest same =
      ap (λ b. newest_version site (if b && true then older else record { patch = patch; func = None } ∷ older)) (equal_either_way move.patch patch ∙ is) ∙ all ∙ same refl
  passed_over move patch None true true false older version less is some all rest same =
      ap (λ b. newest_version site (if b && true then older else record { patch = patch; func = None } ∷ older)) (equal_either_way move.patch patch ∙ is)
  passed_over move patch None true false true older version less is some all rest same = rest
  passed_over move patch None true false false older version less is some all rest same = ap (λ e. newest_version site (entries_for (Some move) (pos 0) e)) (nothing_in older some)
  passed_over move patch None false any true older version less is some all rest same = rest
  passed_over move patch None false any false older version less is some all rest same = rest

  pub newest_others : (move : Transition) (patches : List ℕ) → AreDistinct patches
      → newest_version site (entries_for (Some move) (pos 0) (entries patches)) ≡ version_in setting site (others move.patch patches)
  newest_others move [] distinct = refl
  newest_others move (patch ∷ older) distinct = by (patch == move.patch) refl (newest_others move older distinct.1)
    where
      by : (t : Bool) → (patch == move.patch) ≡ t
          → newest_version site (entries_for (Some move) (pos 0) (entries older)) ≡ version_in setting site (others move.patch older)
          → newest_version site (entries_for (Some move) (pos 0) (entries (patch ∷ older)))
          ≡ version_in setting site (cond t (others move.patch older) (patch ∷ others move.patch older))
      by true is rest =
          passed_over move patch (function_for (functions_of setting patch) site) (replaces setting patch) (list_any (patches_site setting site) older) true (entries older)
          (version_in setting site older) (version_in setting site (others move.patch older)) is (entries_from-any setting site older) (newest_in older) rest
          (λ e. ap (version_in setting site) (sym (others_same move.patch older (subst (λ p. is_one_of p older ≡ false) (eqb-true patch move.patch is) distinct.0))))
      by false is rest =
          passed_over move patch (function_for (functions_of setting patch) site) (replaces setting patch) (list_any (patches_site setting site) older) false (entries older)
          (version_in setting site older) (version_in setting site (others move.patch older)) is (entries_from-any setting site older) (newest_in older) rest
          (λ e. absurd (both_ways false refl e))

  -- behind a patch that replaces nothing counts
  behind_chosen : (patch : ℕ) (function : Option ℕ) (replace : Bool) (a b : Version) → (replace ≡ false → a ≡ b) → chosen site patch function replace a ≡ chosen site patch function replace b
  behind_chosen patch (Some function) replace a b same = refl
  behind_chosen patch None true a b same = refl
  behind_chosen patch None false a b same = same refl

  or_rest : (a b : Bool) → (a || b) ≡ true → a ≡ false → b ≡ true
  or_rest true b e f = cc
  or_rest false b e f = e

  pub behind_replacing : (patches behind : List ℕ) → list_any (replaces setting) patches ≡ true
      → version_in setting site (patches ++ behind) ≡ version_in setting site patches
  behind_replacing [] behind some = cc
  behind_replacing (patch ∷ patches) behind some =
      behind_chosen patch (function_for (functions_of setting patch) site) (replaces setting patch) (version_in setting site (patches ++ behind)) (version_in setting site patches)
      (λ e. behind_replacing patches behind (or_rest (replaces setting patch) (list_any (replaces setting) patches) some e))

  one_replaces : (patch : ℕ) (patches : List ℕ) → replaces setting patch ≡ true → is_one_of patch patches ≡ true → list_any (replaces setting) patches ≡ true
  one_replaces patch [] e there = cc
  one_replaces patch (first ∷ patches) e there = by (first == patch) refl there (one_replaces patch patches e)
    where
      by : (t : Bool) → (first == patch) ≡ t → (t || is_one_of patch patches) ≡ true → (is_one_of patch patches ≡ true → list_any (replaces setting) patches ≡ true) → (replaces setting first || list_any (replaces setting) patches) ≡ true
      by true is there rest = ap (λ p. replaces setting p || list_any (replaces setting) patches) (eqb-true first patch is) ∙ ap (λ b. b || list_any (replaces setting) patches) e
      by false is there rest = or_right (replaces setting first) (list_any (replaces setting) patches) (rest there)

  -- the older patches leave: nothing changes
  pub newest_from_on : (patch : ℕ) (patches : List ℕ) → replaces setting patch ≡ true → is_one_of patch patches ≡ true
      → version_in setting site (reverse (from_on patch patches)) ≡ version_in setting site (reverse patches)
  newest_from_on patch [] e there = refl
  newest_from_on patch (first ∷ patches) e there = by (first == patch) there (newest_from_on patch patches e)
    where
      by : (t : Bool) → (t || is_one_of patch patches) ≡ true
          → (is_one_of patch patches ≡ true → version_in setting site (reverse (from_on patch patches)) ≡ version_in setting site (reverse patches))
          → version_in setting site (reverse (cond t (first ∷ patches) (from_on patch patches))) ≡ version_in setting site (reverse (first ∷ patches))
      by true there rest = refl
      by false there rest =
          rest there
          ∙ sym (behind_replacing (reverse patches) (first ∷ []) (list_any-reverse (replaces setting) patches ∙ one_replaces patch patches e there))
          ∙ ap (version_in setting site) (sym (reverse_onto patches first []))

-- the order of the others
pub others-append : (patch : ℕ) (patches more : List ℕ) → others patch (patches ++ more) ≡ others patch patches ++ others patch more
others-append patch [] more = refl
others-append patch (first ∷ patches) more = by (first == patch) (others-append patch patches more)
  where
    by : (t : Bool) → others patch (patches ++ more) ≡ others patch patches ++ others patch more
        → cond t (others patch (patches ++ more)) (first ∷ others patch (patches ++ more)) ≡ cond t (others patch patches) (first ∷ others patch patches) ++ others patch more
    by true e = e
    by false e = ap (λ rest. first ∷ rest) e

pub others-reverse : (patch : ℕ) (patches : List ℕ) → others patch (reverse patches) ≡ reverse (others patch patches)
others-reverse patch [] = refl
others-reverse patch (first ∷ patches) =
    ap (others patch) (reverse_onto patches first [])
    ∙ others-append patch (reverse patches) (first ∷ [])
    ∙ ap (λ list. list ++ others patch (first ∷ [])) (others-reverse patch patches)
    ∙ by (first == patch)
  where
    by : (t : Bool) → reverse (others patch patches) ++ cond t [] (first ∷ []) ≡ reverse (cond t (others patch patches) (first ∷ others patch patches))
    by true = append-nil (reverse (others patch patches))
    by false = sym (reverse_onto (others patch patches) first [])

pub left_out-others : (patch : ℕ) (patches : List ℕ) → AreDistinct patches → left_out patch patches ≡ others patch patches
left_out-others patch [] distinct = refl
left_out-others patch (first ∷ patches) distinct = by (first == patch) refl (left_out-others patch patches distinct.1)
  where
    by : (t : Bool) → (first == patch) ≡ t → left_out patch patches ≡ others patch patches
        → cond t patches (first ∷ left_out patch patches) ≡ cond t (others patch patches) (first ∷ others patch patches)
    by true is rest = sym (others_same patch patches (subst (λ p. is_one_of p patches ≡ false) (eqb-true first patch is) distinct.0))
    by false is rest = ap (λ list. first ∷ list) rest

pub distinct-reverse : (patches : List ℕ) → AreDistinct patches → AreDistinct (reverse patches)
distinct-reverse [] distinct = tt
distinct-reverse (first ∷ patches) distinct =
    subst AreDistinct (sym (reverse_onto patches first []))
    (distinct-put first (reverse patches) (distinct-reverse patches distinct.1) (list_any-reverse (λ p. p == first) patches ∙ distinct.0))

-- the version by what moves, the patches and the task's state
abbrev pub version_for : Setting → Option Transition → List ℕ → ℤ → ℕ → Version
version_for setting moving patches own site = newest_version site (entries_for moving own (entries_from setting site (reverse patches)))

-- a task that doesn't lag runs the newest entry
pub not_dropped : (site : ℕ) (moving : Option Transition) (own : ℤ) (entries : List Entry) → is_unpatched own ≡ false
    → newest_version site (entries_for moving own entries) ≡ newest_version site entries
not_dropped site moving own [] e = refl
not_dropped site moving own (newest ∷ older) e =
    ap (λ b. newest_version site (if moves moving newest.patch && b then older else newest ∷ older)) e ∙ by (moves moving newest.patch)
  where
    by : (t : Bool) → newest_version site (if t && false then older else newest ∷ older) ≡ newest_version site (newest ∷ older)
    by true = refl
    by false = refl

pub unmoved : (site : ℕ) (own : ℤ) (entries : List Entry) → newest_version site (entries_for None own entries) ≡ newest_version site entries
unmoved site own [] = refl
unmoved site own (newest ∷ older) = refl

module _ (setting : Setting) where
  picked : (state : State) (own : ℤ) (site : ℕ) (version : Version) → is_site_loaded setting state site ≡ true
      → version_for setting state.moving (installed_patches state) own site ≡ version → pick_in setting state own site ≡ target_of setting version
  picked state own site version loaded is =
      ap (λ l. if l then target_of setting (newest_version site (entries_for state.moving own (if l then entries_from setting site (reverse (installed_patches state)) else []))) else None) loaded
      ∙ ap (target_of setting) is

  pub runs_newest : (state : State) (own : ℤ) (site : ℕ) → is_site_loaded setting state site ≡ true → is_unpatched own ≡ false
      → pick_in setting state own site ≡ target_of setting (version_in setting site (reverse (installed_patches state)))
  runs_newest state own site loaded e =
      picked state own site _ loaded (not_dropped site state.moving own (entries_from setting site (reverse (installed_patches state))) e
      ∙ newest_in setting site (reverse (installed_patches state)))

  pub runs_at_rest : (state : State) (own : ℤ) (site : ℕ) → is_site_loaded setting state site ≡ true → state.moving ≡ None
      → pick_in setting state own site ≡ target_of setting (version_in setting site (reverse (installed_patches state)))
  runs_at_rest state own site loaded e =
      picked state own site _ loaded (ap (λ m. newest_version site (entries_for m own (entries_from setting site (reverse (installed_patches state))))) e
      ∙ unmoved site own (entries_from setting site (reverse (installed_patches state)))
      ∙ newest_in setting site (reverse (installed_patches state)))

  pub runs_others : (state : State) (move : Transition) (site : ℕ) → Allowed setting state → is_site_loaded setting state site ≡ true → state.moving ≡ Some move
      → pick_in setting state (pos 0) site ≡ target_of setting (version_in setting site (reverse (others move.patch (installed_patches state))))
  runs_others state move site allowed loaded e =
      picked state (pos 0) site _ loaded (ap (λ m. newest_version site (entries_for m (pos 0) (entries_from setting site (reverse (installed_patches state))))) e
      ∙ newest_others setting site move (reverse (installed_patches state)) (distinct-reverse (installed_patches state) allowed.distinct)
      ∙ ap (version_in setting site) (others-reverse move.patch (installed_patches state)))
