-- Cumulative patches: how many there are, and what is left of the entries when one has replaced the older patches.
use Rattle.std.proofs.Common.{◌≡◌, ℕ, ◌+◌, ◌≤◌, Bool, true, false, not, ◌&&◌, ◌||◌, cond, List, [], ◌∷◌, ◌++◌, reverse, Option, Some, None, is_some, is_none, refl, sym, ap, subst, ◌∙◌, arith}
use Rattle.std.specs.Prelude.{◌==◌, if◌then◌else◌}
use Rattle.std.specs.List.{count_by, list_any, filter}
use Rattle.std.proofs.lemmas.Bool.{eq-eqb, eqb-true, both_ways, or_right}
use Rattle.std.proofs.lemmas.List.{reverse-append}
use Rattle.std.proofs.lemmas.List.Folds.{list_any-append}
use Rattle.std.proofs.lemmas.List.Sums.{sum_by-cons}
use Rattle.std.proofs.lemmas.Grind.{reverse_onto}
use Rattle.klp_types.specs.declared.version.Entry.{Entry}
use Rattle.klp_types.specs.declared.version.Transition.{Transition}
use Rattle.klp_types.specs.Image.{object_of}
use Rattle.klp_types.specs.World.{Installed, installed_before}
use Rattle.klp_types.specs.Setting.{Setting, functions_of, function_for, replaces}
use Rattle.klp_types.specs.Entries.{entry_of, patches_site, entries_from, is_empty}
use Rattle.klp_model.specs.State.{State, installed_patches, with_world}
use Rattle.klp_model.specs.Entries.{is_object_loaded, is_site_loaded, entries_of}
use Rattle.klp_model.specs.Completing.{without_older}
use Rattle.klp_model.specs.Allowed.{is_one_of, AreDistinct, MovesOneOf, AreAbove, AreStacked, Allowed}
use Rattle.klp_model.proofs.OrderLemmas.{numbers, from_on, numbers-from_patch}

module _ (setting : Setting) (moving : Option Transition) where
  one_more : (first : ℕ) (patches : List ℕ) → count_by (replaces setting) (first ∷ patches) ≡ cond (replaces setting first) 1 0 + count_by (replaces setting) patches
  one_more first patches = sum_by-cons (λ p. cond (replaces setting p) 1 0) first patches

  -- of those that have older ones, the newest
  one_above : (patches : List ℕ) → AreAbove setting moving patches → count_by (replaces setting) patches ≤ 1
  one_above [] above = omega arith
  one_above (first ∷ newer) above = rw (one_more first newer) (by (replaces setting first) refl (one_above newer above.1))
    where
      by : (t : Bool) → replaces setting first ≡ t → count_by (replaces setting) newer ≤ 1 → cond t 1 0 + count_by (replaces setting) newer ≤ 1
      by true is rest = subst (λ list. 1 + count_by (replaces setting) list ≤ 1) (sym (above.0 is).0) (omega arith)
      by false is rest = omega arith

  two_stacked : (patches : List ℕ) → AreStacked setting moving patches → count_by (replaces setting) patches ≤ 2
  two_stacked [] stacked = omega arith
  two_stacked (oldest ∷ newer) stacked = rw (one_more oldest newer) (by (replaces setting oldest) (one_above newer stacked))
    where
      by : (t : Bool) → count_by (replaces setting) newer ≤ 1 → cond t 1 0 + count_by (replaces setting) newer ≤ 2
      by true rest = omega arith
      by false rest = omega arith

pub two_replace : (setting : Setting) (state : State) → Allowed setting state → count_by (replaces setting) (installed_patches state) ≤ 2
two_replace setting state allowed = two_stacked setting state.moving (installed_patches state) allowed.stacked

turned : (a b : Bool) → (a || (b || false)) ≡ (b || a)
turned true true = refl
turned true false = refl
turned false true = refl
turned false false = refl

any-reverse : (p : ℕ → Bool) (patches : List ℕ) → list_any p (reverse patches) ≡ list_any p patches
any-reverse p [] = refl
any-reverse p (first ∷ patches) =
    ap (list_any p) (reverse_onto patches first [])
    ∙ list_any-append p (reverse patches) (first ∷ [])
    ∙ ap (λ b. b || (p first || false)) (any-reverse p patches)
    ∙ turned (list_any p patches) (p first)

-- each of a list is one of it
all_among : (all patches : List ℕ) → ((own : ℕ) → is_one_of own patches ≡ true → is_one_of own all ≡ true) → list_any (λ own. not (is_one_of own all)) patches ≡ false
all_among all [] among = refl
all_among all (first ∷ patches) among =
    ap (λ b. not b || list_any (λ own. not (is_one_of own all)) patches) (among first (ap (λ b. b || is_one_of first patches) (eq-eqb first first refl)))
    ∙ all_among all patches (λ own there. among own (or_right (first == own) (is_one_of own patches) there))

-- a patch that replaces the older ones
module _ (setting : Setting) (patch : ℕ) (replacing : replaces setting patch ≡ true) where
  -- the older ones
  abbrev before : List ℕ → List ℕ
  before [] = []
  before (first ∷ newer) = cond (first == patch) [] (first ∷ before newer)

  numbers-before : (installed : List Installed) → numbers (installed_before patch installed) ≡ before (numbers installed)
  numbers-before [] = refl
  numbers-before (first ∷ newer) = by (first.patch == patch) (numbers-before newer)
    where
      by : (t : Bool) → numbers (installed_before patch newer) ≡ before (numbers newer)
          → numbers (cond t [] (first ∷ installed_before patch newer)) ≡ cond t [] (first.patch ∷ before (numbers newer))
      by true rest = refl
      by false rest = ap (λ list. first.patch ∷ list) rest

  none_before : (patches : List ℕ) → is_one_of patch (before patches) ≡ false
  none_before [] = refl
  none_before (first ∷ newer) = by (first == patch) refl (none_before newer)
    where
      by : (t : Bool) → (first == patch) ≡ t → is_one_of patch (before newer) ≡ false → is_one_of patch (cond t [] (first ∷ before newer)) ≡ false
      by true e rest = refl
      by false e rest = ap (λ b. b || is_one_of patch (before newer)) e ∙ rest

  -- one that has older ones is the newest
  newest : (moving : Option Transition) (patches : List ℕ) → AreAbove setting moving patches → is_one_of patch patches ≡ true
      → (from_on patch patches ≡ patch ∷ []) × (patches ≡ before patches ++ patch ∷ [])
  newest moving [] above there = absurd (both_ways false refl there)
  newest moving (first ∷ newer) above there = by (first == patch) refl there (newest moving newer above.1)
    where
      alone : (first == patch) ≡ true → first ∷ newer ≡ patch ∷ []
      alone e =
          let same = eqb-true first patch e in
          ap (λ p. p ∷ newer) same ∙ ap (λ rest. patch ∷ rest) (above.0 (subst (λ p. replaces setting p ≡ true) (sym same) replacing)).0

      by : (t : Bool) → (first == patch) ≡ t → (t || is_one_of patch newer) ≡ true
          → (is_one_of patch newer ≡ true → (from_on patch newer ≡ patch ∷ []) × (newer ≡ before newer ++ patch ∷ []))
          → (cond t (first ∷ newer) (from_on patch newer) ≡ patch ∷ []) × (first ∷ newer ≡ cond t [] (first ∷ before newer) ++ patch ∷ [])
      by true e there rest = (alone e, alone e)
      by false e there rest = let behind = rest there in (behind.0, ap (λ list. first ∷ list) behind.1)

  module _ (site : ℕ) where
    abbrev entries : List ℕ → List Entry
    entries patches = entries_from setting site patches

    abbrev function_of : ℕ → Option ℕ
    function_of own = function_for (functions_of setting own) site

    -- the oldest patch has its function, and never a nop
    alone : (replace : Bool) (function : Option ℕ) → entry_of patch function (replace && false) ++ [] ≡ entry_of patch function false
    alone true (Some f) = refl
    alone true None = refl
    alone false (Some f) = refl
    alone false None = refl

    module _ (keep : Entry → Bool) where
      -- entries of patches that have to go
      all_gone : (away : ℕ → Bool) → ((own : ℕ) (function : Option ℕ) → away own ≡ false → keep (record { patch = own; func = function }) ≡ false)
          → (patches : List ℕ) → list_any away patches ≡ false → filter keep (entries patches) ≡ []
      all_gone away goes [] none = refl
      all_gone away goes (own ∷ older) none =
          by (away own) refl none (λ rest. all_gone away goes older rest)
        where
          first_gone : (function : Option ℕ) (undoes : Bool) → away own ≡ false → filter keep (entry_of own function undoes ++ entries older) ≡ filter keep (entries older)
          first_gone (Some f) undoes e = ap (λ b. cond b (record { patch = own; func = Some f } ∷ filter keep (entries older)) (filter keep (entries older))) (goes own (Some f) e)
          first_gone None true e = ap (λ b. cond b (record { patch = own; func = None } ∷ filter keep (entries older)) (filter keep (entries older))) (goes own None e)
          first_gone None false e = refl

          by : (t : Bool) → away own ≡ t → (t || list_any away older) ≡ false → (list_any away older ≡ false → filter keep (entries older) ≡ [])
              → filter keep (entries (own ∷ older)) ≡ []
          by true e none rest = absurd (both_ways true none refl)
          by false e none rest = first_gone (function_of own) (replaces setting own && list_any (patches_site setting site) older) e ∙ rest none

      -- the function on top stays, and a nop goes
      function_left : ((f : ℕ) → keep (record { patch = patch; func = Some f }) ≡ true) → keep (record { patch = patch; func = None }) ≡ false
          → (function : Option ℕ) (undoes : Bool) (older : List Entry) → filter keep older ≡ []
          → filter keep (entry_of patch function undoes ++ older) ≡ entry_of patch function false
      function_left stays goes (Some f) undoes older rest =
          ap (λ b. cond b (record { patch = patch; func = Some f } ∷ filter keep older) (filter keep older)) (stays f) ∙ ap (λ es. record { patch = patch; func = Some f } ∷ es) rest
      function_left stays goes None true older rest =
          ap (λ b. cond b (record { patch = patch; func = None } ∷ filter keep older) (filter keep older)) goes ∙ rest
      function_left stays goes None false older rest = rest

      -- where older patches go and the function stays, it is what is left
      newest_left : ((f : ℕ) → keep (record { patch = patch; func = Some f }) ≡ true) → keep (record { patch = patch; func = None }) ≡ false
          → (older : List ℕ) → filter keep (entries (reverse older)) ≡ [] → entries (patch ∷ []) ≡ filter keep (entries (reverse (older ++ patch ∷ [])))
      newest_left stays goes older gone =
          alone (replaces setting patch) (function_of patch)
          ∙ sym (function_left stays goes (function_of patch) (replaces setting patch && list_any (patches_site setting site) (reverse older)) (entries (reverse older)) gone)
          ∙ ap (λ list. filter keep (entries list)) (sym (reverse-append older (patch ∷ [])))

    -- what stays where these are the older patches
    abbrev stays_over : List ℕ → Entry → Bool
    stays_over older entry = not (is_one_of entry.patch older) && not (entry.patch == patch && is_none entry.func)

    abbrev own_function : Entry → Bool
    own_function entry = entry.patch == patch && is_some entry.func

    own_nop : (b : Bool) → b ≡ true → not (b && true) ≡ false
    own_nop b e = ap (λ b. not (b && true)) e

    and-false : (a : Bool) → (a && false) ≡ false
    and-false true = refl
    and-false false = refl

    -- by the test of older patches
    over_older : (older : List ℕ) → is_one_of patch older ≡ false → entries (patch ∷ []) ≡ filter (stays_over older) (entries (reverse (older ++ patch ∷ [])))
    over_older older none =
        newest_left (stays_over older)
        (λ f. ap (λ b. not b && not ((patch == patch) && false)) none ∙ ap (λ b. not b) (and-false (patch == patch)))
        (ap (λ b. not b && not ((patch == patch) && true)) none ∙ own_nop (patch == patch) (eq-eqb patch patch refl))
        older
        (all_gone (stays_over older) (λ own. not (is_one_of own older)) (λ own function e. ap (λ b. b && not ((own == patch) && is_none function)) e) (reverse older)
        (any-reverse (λ own. not (is_one_of own older)) older ∙ all_among older older (λ own there. there)))

    -- by the test of own functions
    own_over_older : (older : List ℕ) → is_one_of patch older ≡ false → entries (patch ∷ []) ≡ filter own_function (entries (reverse (older ++ patch ∷ [])))
    own_over_older older none =
        newest_left own_function (λ f. ap (λ b. b && true) (eq-eqb patch patch refl)) (and-false (patch == patch)) older
        (all_gone own_function (λ own. own == patch) (λ own function e. ap (λ b. b && is_some function) e) (reverse older)
        (any-reverse (λ own. own == patch) older ∙ none))

    -- over the oldest patch, which it is itself, all stay
    all_stay : (patches : List ℕ) → is_one_of patch patches ≡ false → filter (stays_over []) (entries (patches ++ patch ∷ [])) ≡ entries (patches ++ patch ∷ [])
    all_stay [] none = by (function_of patch) (replaces setting patch)
      where
        by : (function : Option ℕ) (replace : Bool) → filter (stays_over []) (entry_of patch function (replace && false) ++ []) ≡ entry_of patch function (replace && false) ++ []
        by (Some f) replace = ap (λ b. cond (not b) (record { patch = patch; func = Some f } ∷ []) []) (and-false (patch == patch))
        by None true = refl
        by None false = refl
    all_stay (own ∷ older) none = by (own == patch) refl none (all_stay older)
      where
        first_stays : (behind : List Entry) (function : Option ℕ) (undoes : Bool) → (own == patch) ≡ false
            → filter (stays_over []) (entry_of own function undoes ++ behind) ≡ entry_of own function undoes ++ filter (stays_over []) behind
        first_stays behind (Some f) undoes e = ap (λ b. cond (not (b && false)) (record { patch = own; func = Some f } ∷ filter (stays_over []) behind) (filter (stays_over []) behind)) e
        first_stays behind None true e = ap (λ b. cond (not (b && true)) (record { patch = own; func = None } ∷ filter (stays_over []) behind) (filter (stays_over []) behind)) e
        first_stays behind None false e = refl

        by : (t : Bool) → (own == patch) ≡ t → (t || is_one_of patch older) ≡ false
            → (is_one_of patch older ≡ false → filter (stays_over []) (entries (older ++ patch ∷ [])) ≡ entries (older ++ patch ∷ []))
            → filter (stays_over []) (entries (own ∷ (older ++ patch ∷ []))) ≡ entries (own ∷ (older ++ patch ∷ []))
        by true e none rest = absurd (both_ways true none refl)
        by false e none rest =
            first_stays (entries (older ++ patch ∷ [])) (function_of own) (replaces setting own && list_any (patches_site setting site) (older ++ patch ∷ [])) e
            ∙ ap (λ es. entry_of own (function_of own) (replaces setting own && list_any (patches_site setting site) (older ++ patch ∷ [])) ++ es) (rest none)

    left_of : (moving : Option Transition) (patches : List ℕ) → AreDistinct patches → AreStacked setting moving patches → is_one_of patch patches ≡ true
        → entries (reverse (from_on patch patches)) ≡ filter (stays_over (before patches)) (entries (reverse patches))
    left_of moving [] distinct stacked there = absurd (both_ways false refl there)
    left_of moving (oldest ∷ newer) distinct stacked there = by (oldest == patch) refl there
      where
        by : (t : Bool) → (oldest == patch) ≡ t → (t || is_one_of patch newer) ≡ true
            → entries (reverse (cond t (oldest ∷ newer) (from_on patch newer))) ≡ filter (stays_over (cond t [] (oldest ∷ before newer))) (entries (reverse (oldest ∷ newer)))
        by true e there =
            let same = eqb-true oldest patch e in
            let none = any-reverse (λ p. p == patch) newer ∙ subst (λ p. is_one_of p newer ≡ false) same distinct.0 in
            subst (λ list. entries list ≡ filter (stays_over []) (entries list)) (sym (ap (λ p. reverse (p ∷ newer)) same ∙ reverse_onto newer patch [])) (sym (all_stay (reverse newer) none))
        by false e there =
            let last = newest moving newer stacked there in
            let none = ap (λ b. b || is_one_of patch (before newer)) e ∙ none_before newer in
            ap (λ list. entries (reverse list)) last.0
            ∙ over_older (oldest ∷ before newer) none
            ∙ ap (λ list. filter (stays_over (oldest ∷ before newer)) (entries (reverse (oldest ∷ list)))) (sym last.1)

    own_left_of : (moving : Option Transition) (patches : List ℕ) → AreStacked setting moving patches → is_one_of patch patches ≡ true → is_empty (before patches) ≡ false
        → entries (reverse (from_on patch patches)) ≡ filter own_function (entries (reverse patches))
    own_left_of moving [] stacked there some = absurd (both_ways false refl there)
    own_left_of moving (oldest ∷ newer) stacked there some = by (oldest == patch) refl there some
      where
        by : (t : Bool) → (oldest == patch) ≡ t → (t || is_one_of patch newer) ≡ true → is_empty (cond t [] (oldest ∷ before newer)) ≡ false
            → entries (reverse (cond t (oldest ∷ newer) (from_on patch newer))) ≡ filter own_function (entries (reverse (oldest ∷ newer)))
        by true e there some = absurd (both_ways true some refl)
        by false e there some =
            let last = newest moving newer stacked there in
            let none = ap (λ b. b || is_one_of patch (before newer)) e ∙ none_before newer in
            ap (λ list. entries (reverse list)) last.0
            ∙ own_over_older (oldest ∷ before newer) none
            ∙ ap (λ list. filter own_function (entries (reverse (oldest ∷ list)))) (sym last.1)

    module _ (state : State) where
      abbrev left : State
      left = with_world state (without_older true state.world patch)

      site_loaded : (object : Option ℕ) → is_object_loaded left object ≡ is_object_loaded state object
      site_loaded None = refl
      site_loaded (Some object) = refl

      -- where the entries of the patches that are left are those that pass, so are the site's
      of_site : (keep : Entry → Bool) → entries (reverse (from_on patch (installed_patches state))) ≡ filter keep (entries (reverse (installed_patches state)))
          → entries_of setting left site ≡ filter keep (entries_of setting state site)
      of_site keep passing =
          ap (λ loaded. if loaded then entries (reverse (installed_patches left)) else []) (site_loaded (object_of setting.image.objects site))
          ∙ by (is_site_loaded setting state site)
        where
          by : (loaded : Bool) → (if loaded then entries (reverse (installed_patches left)) else []) ≡ filter keep (if loaded then entries (reverse (installed_patches state)) else [])
          by true = ap (λ patches. entries (reverse patches)) (numbers-from_patch patch state.world.installed) ∙ passing
          by false = refl

      older_gone : Allowed setting state → is_one_of patch (installed_patches state) ≡ true
          → entries_of setting left site ≡ filter (stays_over (numbers (installed_before patch state.world.installed))) (entries_of setting state site)
      older_gone allowed there =
          of_site (stays_over (numbers (installed_before patch state.world.installed)))
          (left_of state.moving (installed_patches state) allowed.distinct allowed.stacked there
          ∙ ap (λ older. filter (stays_over older) (entries (reverse (installed_patches state)))) (sym (numbers-before state.world.installed)))

      own_gone : Allowed setting state → is_one_of patch (installed_patches state) ≡ true → is_empty (numbers (installed_before patch state.world.installed)) ≡ false
          → entries_of setting left site ≡ filter own_function (entries_of setting state site)
      own_gone allowed there some =
          of_site own_function
          (own_left_of state.moving (installed_patches state) allowed.stacked there (subst (λ older. is_empty older ≡ false) (numbers-before state.world.installed) some))

none_numbers : (installed : List Installed) → is_empty installed ≡ false → is_empty (numbers installed) ≡ false
none_numbers [] e = e
none_numbers (first ∷ newer) e = refl

module _ (setting : Setting) (state : State) (move : Transition) (site : ℕ) (allowed : Allowed setting state) (is : state.moving ≡ Some move) (replacing : replaces setting move.patch ≡ true) where
  there : is_one_of move.patch (installed_patches state) ≡ true
  there = subst (λ moving. MovesOneOf moving (installed_patches state)) is allowed.moving

  pub older_entries_gone : entries_of setting (with_world state (without_older true state.world move.patch)) site
      ≡ filter (λ (e : Entry). not (is_one_of e.patch (numbers (installed_before move.patch state.world.installed))) && not (e.patch == move.patch && is_none e.func)) (entries_of setting state site)
  older_entries_gone = older_gone setting move.patch replacing site state allowed there

  pub own_functions_left : is_empty (installed_before move.patch state.world.installed) ≡ false
      → entries_of setting (with_world state (without_older true state.world move.patch)) site
      ≡ filter (λ (e : Entry). e.patch == move.patch && is_some e.func) (entries_of setting state site)
  own_functions_left some = own_gone setting move.patch replacing site state allowed there (none_numbers (installed_before move.patch state.world.installed) some)
