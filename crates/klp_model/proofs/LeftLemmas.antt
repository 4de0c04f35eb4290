-- No task is inside of a function that has left the entries of its site.
use Rattle.std.proofs.Common.{◌≡◌, ℕ, ℤ, Bool, true, false, ◌&&◌, ◌||◌, cond, List, [], ◌∷◌, ◌++◌, reverse, Option, Some, None, refl, sym, ap, subst, ◌∙◌}
use Rattle.std.specs.Prelude.{◌==◌, if◌then◌else◌, is_some}
use Rattle.std.specs.List.{list_any}
use Rattle.std.proofs.lemmas.Bool.{eq-eqb, eqb-true, or_parts, both_ways, false_from_ne_true}
use Rattle.std.proofs.lemmas.Grind.{reverse_onto}
use Rattle.std.proofs.Math.Bool.{or-true}
use Rattle.klp_types.specs.declared.version.Version.{Version}
use Rattle.klp_types.specs.declared.version.Version.TheVariants.{Original, New}
use Rattle.klp_types.specs.declared.version.Entry.{Entry}
use Rattle.klp_types.specs.declared.version.Transition.{Transition}
use Rattle.klp_types.specs.Setting.{Setting, functions_of, function_for, replaces}
use Rattle.klp_types.specs.declared.task.Task.{Task}
use Rattle.klp_model.specs.Task.{task_at}
use Rattle.klp_model.specs.State.{State, installed_patches}
use Rattle.klp_model.specs.Entries.{is_site_loaded}
use Rattle.klp_types.specs.Entries.{entry_of, patches_site, entries_from, is_empty}
use Rattle.klp_types.specs.Pick.{moves, is_unpatched, entries_for, version_of, newest_version}
use Rattle.klp_model.specs.Blocked.{is_version}
use Rattle.klp_model.specs.Allowed.{is_one_of, AreDistinct, AreAbove, AreStacked}
use Rattle.klp_types.proofs.EntryLemmas.{entries_from-any}
use Rattle.klp_model.proofs.OrderLemmas.{equal_either_way}
use Rattle.klp_model.specs.declared.seen.Seen.{Seen}
use Rattle.klp_model.specs.Observed.{Frame, seen_from, IsHonestRun}
use Rattle.klp_model.specs.InPlace.{IsInPlace}
use Rattle.klp_model.specs.Consistent.{AreCurrent, is_number, HasEntryIn, AllHaveEntries, NoneLeft, is_of_patch, below}
use Rattle.klp_model.specs.Versions.{version_in, chosen, others}
use Rattle.klp_model.proofs.VersionLemmas.{newest_in, nothing_in}
use Rattle.klp_model.proofs.PickLemmas.{now, current}
use Rattle.klp_model.proofs.KeptLemmas.{IsKept}
use Rattle.klp_model.proofs.ObservedLemmas.{kept_from}

-- what is run has an entry
stands_newest : (site : ℕ) (entries : List Entry) → HasEntryIn entries (newest_version site entries)
stands_newest site [] = tt
stands_newest site (newest ∷ older) = by newest.func refl
  where
    by : (function : Option ℕ) → newest.func ≡ function → HasEntryIn (newest ∷ older) (version_of site function newest.patch)
    by None is = tt
    by (Some function) is =
        ap (λ b. (b && is_number newest.func function) || list_any (λ (e : Entry). e.patch == newest.patch && is_number e.func function) older) (eq-eqb newest.patch newest.patch refl)
        ∙ ap (λ o. is_number o function || list_any (λ (e : Entry). e.patch == newest.patch && is_number e.func function) older) is
        ∙ ap (λ b. b || list_any (λ (e : Entry). e.patch == newest.patch && is_number e.func function) older) (eq-eqb function function refl)

stands_behind : (entry : Entry) (entries : List Entry) (version : Version) → HasEntryIn entries version → HasEntryIn (entry ∷ entries) version
stands_behind entry entries (Original site) well_formed = tt
stands_behind entry entries (New patch function) well_formed = ap (λ b. (entry.patch == patch && is_number entry.func function) || b) well_formed ∙ or-true (entry.patch == patch && is_number entry.func function)

stands_for : (site : ℕ) (moving : Option Transition) (task : ℤ) (entries : List Entry) → HasEntryIn entries (newest_version site (entries_for moving task entries))
stands_for site moving task [] = tt
stands_for site moving task (newest ∷ older) = by (moves moving newest.patch && is_unpatched task)
  where
    by : (t : Bool) → HasEntryIn (newest ∷ older) (newest_version site (if t then older else newest ∷ older))
    by true = stands_behind newest older (newest_version site older) (stands_newest site older)
    by false = stands_newest site (newest ∷ older)

module _ (setting : Setting) (state : State) where
  all_stand : (task : ℤ) (frames : List Frame) → AreCurrent (now setting state task) frames → AllHaveEntries setting state frames
  all_stand task [] are = tt
  all_stand task (frame ∷ frames) are =
      let found = current setting (is_site_loaded setting state frame.site) state.moving (installed_patches state) task frame.site frame.version are.0 in (
        subst (λ l. HasEntryIn (if l then entries_from setting frame.site (reverse (installed_patches state)) else []) frame.version) (sym found.0)
            (subst (HasEntryIn (entries_from setting frame.site (reverse (installed_patches state)))) found.1
            (stands_for frame.site state.moving task (entries_from setting frame.site (reverse (installed_patches state))))),
        all_stand task frames are.1,
      )

pub none_left : (setting : Setting) (start : State) (first second : List Seen) → IsInPlace setting → IsHonestRun setting start (first ++ second)
    → NoneLeft setting (seen_from setting start first)
none_left setting start first second place run number =
    by (task_at (seen_from setting start first).state.tasks number) ((kept_from setting start first second place run).1 number)
  where
    by : (task : Option Task) → IsKept setting (seen_from setting start first).state task ((seen_from setting start first).stacks number)
        → AllHaveEntries setting (seen_from setting start first).state ((seen_from setting start first).stacks number)
    by None k = subst (AllHaveEntries setting (seen_from setting start first).state) (sym k) tt
    by (Some task) k = all_stand setting (seen_from setting start first).state task.state ((seen_from setting start first).stacks number) k.0

-- versions
pub is_version-true : (a b : Version) → is_version a b ≡ true → a ≡ b
is_version-true (Original site) (Original other) e = ap Original (eqb-true site other e)
is_version-true (Original site) (New patch function) e = cc
is_version-true (New patch function) (Original site) e = cc
is_version-true (New patch function) (New other number) e = by (patch == other) refl e
  where
    by : (t : Bool) → (patch == other) ≡ t → (t && function == number) ≡ true → New patch function ≡ New other number
    by true is e = ap (λ p. New p function) (eqb-true patch other is) ∙ ap (λ n. New other n) (eqb-true function number e)
    by false is e = cc

other_patch : (patch function : ℕ) (version : Version) → is_of_patch patch version ≡ false → is_version (New patch function) version ≡ false
other_patch patch function (Original site) e = refl
other_patch patch function (New own number) e = ap (λ b. b && function == number) (equal_either_way patch own ∙ e)

abbrev is_new : Version → Bool
is_new (Original site) = false
is_new (New patch function) = true

not_original : (site : ℕ) (version : Version) → is_new version ≡ true → is_version (Original site) version ≡ false
not_original site (Original other) e = cc
not_original site (New patch function) e = refl

pub or_none : (b : Bool) → b ≡ false → (b || false) ≡ false
or_none true e = e
or_none false e = refl

pub others_none : (patch : ℕ) (patches : List ℕ) → is_one_of patch (others patch patches) ≡ false
others_none patch [] = refl
others_none patch (first ∷ patches) = by (first == patch) refl (others_none patch patches)
  where
    by : (t : Bool) → (first == patch) ≡ t → is_one_of patch (others patch patches) ≡ false → is_one_of patch (cond t (others patch patches) (first ∷ others patch patches)) ≡ false
    by true is e = e
    by false is e = ap (λ b. b || is_one_of patch (others patch patches)) is ∙ e

-- replacing patches stand only on top, and move; the oldest counts for none
abbrev Plain : Setting → List ℕ → Type 0
Plain setting [] = Unit {0}
Plain setting (patch ∷ older) = (is_empty older ≡ false → replaces setting patch ≡ false) × Plain setting older

abbrev OnTop : Setting → ℕ → List ℕ → Type 0
OnTop setting moving [] = Unit {0}
OnTop setting moving (patch ∷ older) = (is_empty older ≡ false → replaces setting patch ≡ true → (patch == moving) ≡ true) × Plain setting older

abbrev NoneReplaces : Setting → List ℕ → Type 0
NoneReplaces setting [] = Unit {0}
NoneReplaces setting (patch ∷ older) = (replaces setting patch ≡ false) × NoneReplaces setting older

abbrev Tops : Setting → ℕ → List ℕ → Type 0
Tops setting moving [] = Unit {0}
Tops setting moving (patch ∷ older) = (replaces setting patch ≡ true → (patch == moving) ≡ true) × NoneReplaces setting older

module _ (setting : Setting) (move : Transition) where
  none_and : (patches : List ℕ) (patch : ℕ) → NoneReplaces setting patches → replaces setting patch ≡ false → NoneReplaces setting (patches ++ patch ∷ [])
  none_and [] patch none e = (e, tt)
  none_and (first ∷ patches) patch none e = (none.0, none_and patches patch none.1 e)

  tops_and : (patches : List ℕ) (patch : ℕ) → is_empty patches ≡ false → replaces setting patch ≡ false → Tops setting move.patch patches → Tops setting move.patch (patches ++ patch ∷ [])
  tops_and [] patch some e tops = cc
  tops_and (first ∷ patches) patch some e tops = (tops.0, none_and patches patch tops.1 e)

  some_last : (patches : List ℕ) (patch : ℕ) → is_empty (patches ++ patch ∷ []) ≡ false
  some_last [] patch = refl
  some_last (first ∷ patches) patch = refl

  some_reverse : (patch : ℕ) (patches : List ℕ) → is_empty (reverse (patch ∷ patches)) ≡ false
  some_reverse patch patches = ap is_empty (reverse_onto patches patch []) ∙ some_last (reverse patches) patch

  never_empty : (first : ℕ) (patches : List ℕ) → first ∷ patches ≡ [] → ⊥
  never_empty first patches e = cc

  tops_of : (patches : List ℕ) → AreAbove setting (Some move) patches → Tops setting move.patch (reverse patches)
  tops_of [] above = tt
  tops_of (patch ∷ []) above = ((λ e. equal_either_way patch move.patch ∙ (above.0 e).1), tt)
  tops_of (patch ∷ next ∷ patches) above =
      subst (Tops setting move.patch) (sym (reverse_onto (next ∷ patches) patch []))
      (tops_and (reverse (next ∷ patches)) patch (some_reverse next patches) (false_from_ne_true (replaces setting patch) (λ e. never_empty next patches (above.0 e).0)) (tops_of (next ∷ patches) above.1))

  plain_and : (patches : List ℕ) (oldest : ℕ) → NoneReplaces setting patches → Plain setting (patches ++ oldest ∷ [])
  plain_and [] oldest none = ((λ e. absurd (both_ways true e refl)), tt)
  plain_and (patch ∷ patches) oldest none = ((λ e. none.0), plain_and patches oldest none.1)

  top_and : (patches : List ℕ) (oldest : ℕ) → Tops setting move.patch patches → OnTop setting move.patch (patches ++ oldest ∷ [])
  top_and [] oldest tops = ((λ e f. absurd (both_ways true e refl)), tt)
  top_and (patch ∷ patches) oldest tops = ((λ e f. tops.0 f), plain_and patches oldest tops.1)

  pub on_top : (patches : List ℕ) → AreStacked setting (Some move) patches → OnTop setting move.patch (reverse patches)
  on_top [] stacked = tt
  on_top (oldest ∷ patches) stacked = subst (OnTop setting move.patch) (sym (reverse_onto patches oldest [])) (top_and (reverse patches) oldest (tops_of patches stacked))

  plain_top : (patches : List ℕ) → Plain setting patches → OnTop setting move.patch patches
  plain_top [] plain = tt
  plain_top (patch ∷ older) plain = ((λ e f. absurd (both_ways (replaces setting patch) (plain.0 e) f)), plain.1)

-- at one site
module _ (setting : Setting) (site : ℕ) (mp : ℕ) where
  abbrev entries : List ℕ → List Entry
  entries patches = entries_from setting site patches

  not_chosen : (patch other : ℕ) (function : Option ℕ) (replace : Bool) (older : Version) → (other == patch) ≡ false → is_of_patch patch older ≡ false
      → is_of_patch patch (chosen site other function replace older) ≡ false
  not_chosen patch other (Some function) replace older apart rest = apart
  not_chosen patch other None true older apart rest = refl
  not_chosen patch other None false older apart rest = rest

  pub not_of_patch : (patch : ℕ) (patches : List ℕ) → is_one_of patch patches ≡ false → is_of_patch patch (version_in setting site patches) ≡ false
  not_of_patch patch [] none = refl
  not_of_patch patch (first ∷ patches) none =
      let parts = or_parts (first == patch) (is_one_of patch patches) none in
      not_chosen patch first (function_for (functions_of setting first) site) (replaces setting first) (version_in setting site patches) parts.0 (not_of_patch patch patches parts.1)

  pub passed : (patch : ℕ) (function : Option ℕ) (r : Bool) (older : List Entry) → (patch == mp) ≡ false
      → below site mp (entry_of patch function r ++ older) ≡ below site mp older
  passed patch (Some function) r older is = ap (λ b. if b then newest_version site older ∷ [] else below site mp older) is
  passed patch None true older is = ap (λ b. if b then newest_version site older ∷ [] else below site mp older) is
  passed patch None false older is = refl

  pub met : (patch : ℕ) (function : Option ℕ) (older : List Entry) → (patch == mp) ≡ true
      → below site mp (record { patch = patch; func = function } ∷ older) ≡ newest_version site older ∷ []
  met patch function older is = ap (λ b. if b then newest_version site older ∷ [] else below site mp older) is

  none_blocked : (patches : List ℕ) → is_one_of mp patches ≡ false → below site mp (entries patches) ≡ []
  none_blocked [] none = refl
  none_blocked (patch ∷ older) none =
      let parts = or_parts (patch == mp) (is_one_of mp older) none in
      passed patch (function_for (functions_of setting patch) site) (replaces setting patch && list_any (patches_site setting site) older) (entries older) parts.0 ∙ none_blocked older parts.1

  not_of_step : (patch number : ℕ) (first : ℕ) (function : Option ℕ) (r t : Bool) (older : List ℕ) → (first == mp) ≡ t → is_one_of patch older ≡ false
      → list_any (is_version (New patch number)) (below site mp (entries older)) ≡ false
      → list_any (is_version (New patch number)) (below site mp (entry_of first function r ++ entries older)) ≡ false
  not_of_step patch number first function r false older is none rest = ap (list_any (is_version (New patch number))) (passed first function r (entries older) is) ∙ rest
  not_of_step patch number first (Some function) r true older is none rest =
      ap (list_any (is_version (New patch number))) (met first (Some function) (entries older) is)
      ∙ ap (λ v. is_version (New patch number) v || false) (newest_in setting site older)
      ∙ or_none (is_version (New patch number) (version_in setting site older)) (other_patch patch number (version_in setting site older) (not_of_patch patch older none))
  not_of_step patch number first None true true older is none rest =
      ap (list_any (is_version (New patch number))) (met first None (entries older) is)
      ∙ ap (λ v. is_version (New patch number) v || false) (newest_in setting site older)
      ∙ or_none (is_version (New patch number) (version_in setting site older)) (other_patch patch number (version_in setting site older) (not_of_patch patch older none))
  not_of_step patch number first None false true older is none rest = rest

  not_of : (patch number : ℕ) (patches : List ℕ) → is_one_of patch patches ≡ false → list_any (is_version (New patch number)) (below site mp (entries patches)) ≡ false
  not_of patch number [] none = refl
  not_of patch number (first ∷ older) none =
      let parts = or_parts (first == patch) (is_one_of patch older) none in
      not_of_step patch number first (function_for (functions_of setting first) site) (replaces setting first && list_any (patches_site setting site) older) (first == mp) older refl parts.1 (not_of patch number older parts.1)

  -- under a nop there is a new function
  some_in : (patches : List ℕ) → list_any (patches_site setting site) patches ≡ true → is_empty patches ≡ false
  some_in [] e = cc
  some_in (patch ∷ patches) e = refl

  new_step : (patch : ℕ) (function : Option ℕ) (replace : Bool) (older : List ℕ) → (replaces setting patch ≡ replace) → function_for (functions_of setting patch) site ≡ function
      → (patches_site setting site patch || list_any (patches_site setting site) older) ≡ true → (is_empty older ≡ false → replaces setting patch ≡ false)
      → (list_any (patches_site setting site) older ≡ true → is_new (version_in setting site older) ≡ true)
      → is_new (chosen site patch function replace (version_in setting site older)) ≡ true
  new_step patch (Some function) replace older is has some plain rest = refl
  new_step patch None replace older is has some plain rest = by replace is
    where
      behind : list_any (patches_site setting site) older ≡ true
      behind = sym (ap (λ o. is_some o || list_any (patches_site setting site) older) has) ∙ some

      by : (r : Bool) → replaces setting patch ≡ r → is_new (chosen site patch None r (version_in setting site older)) ≡ true
      by true is = absurd (both_ways (replaces setting patch) (plain (some_in older behind)) is)
      by false is = rest behind

  new_in : (patches : List ℕ) → Plain setting patches → list_any (patches_site setting site) patches ≡ true → is_new (version_in setting site patches) ≡ true
  new_in [] plain e = cc
  new_in (patch ∷ older) plain e =
      new_step patch (function_for (functions_of setting patch) site) (replaces setting patch) older refl refl e plain.0 (new_in older plain.1)

  -- what a task of state 1 runs isn't what is next below the entry of the moving patch
  apart_one : (patch : ℕ) (function : Option ℕ) (replace any t : Bool) (older : List ℕ) → (patch == mp) ≡ t → replaces setting patch ≡ replace
      → list_any (patches_site setting site) older ≡ any → is_one_of patch older ≡ false
      → (is_empty older ≡ false → replaces setting patch ≡ true → (patch == mp) ≡ true) → Plain setting older
      → list_any (is_version (version_in setting site older)) (below site mp (entries older)) ≡ false
      → list_any (is_version (chosen site patch function replace (version_in setting site older))) (below site mp (entry_of patch function (replace && any) ++ entries older)) ≡ false
  apart_one patch (Some function) replace any true older is re some away top plain rest =
      ap (list_any (is_version (New patch function))) (met patch (Some function) (entries older) is)
      ∙ ap (λ v. is_version (New patch function) v || false) (newest_in setting site older)
      ∙ or_none (is_version (New patch function) (version_in setting site older)) (other_patch patch function (version_in setting site older) (not_of_patch patch older away))
  apart_one patch (Some function) replace any false older is re some away top plain rest =
      ap (list_any (is_version (New patch function))) (passed patch (Some function) (replace && any) (entries older) is) ∙ not_of patch function older away
  apart_one patch None true true true older is re some away top plain rest =
      ap (list_any (is_version (Original site))) (met patch None (entries older) is)
      ∙ ap (λ v. is_version (Original site) v || false) (newest_in setting site older)
      ∙ or_none (is_version (Original site) (version_in setting site older)) (not_original site (version_in setting site older) (new_in older plain some))
  apart_one patch None true true false older is re some away top plain rest = absurd (both_ways (patch == mp) is (top (some_in older some) re))
  apart_one patch None true false t older is re some away top plain rest =
      ap (λ e. list_any (is_version (Original site)) (below site mp e)) (nothing_in (entries older) (entries_from-any setting site older ∙ some))
  apart_one patch None false any true older is re some away top plain rest =
      ap (list_any (is_version (version_in setting site older))) (none_blocked older (subst (λ p. is_one_of p older ≡ false) (eqb-true patch mp is) away))
  apart_one patch None false any false older is re some away top plain rest = rest

  pub apart_below : (patches : List ℕ) → AreDistinct patches → OnTop setting mp patches
      → list_any (is_version (version_in setting site patches)) (below site mp (entries patches)) ≡ false
  apart_below [] distinct top = refl
  apart_below (patch ∷ older) distinct top =
      apart_one patch (function_for (functions_of setting patch) site) (replaces setting patch) (list_any (patches_site setting site) older) (patch == mp) older refl refl refl
      distinct.0 top.0 top.1 (apart_below older distinct.1 (plain_top setting (record { patch = mp; target = true }) older top.1))
