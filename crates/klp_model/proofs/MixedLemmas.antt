-- In a transition no task is inside of functions of both sides.
use Rattle.std.proofs.Common.{◌≡◌, ℕ, zero, suc, ℤ, pos, negsuc, Bool, true, false, ◌&&◌, ◌||◌, List, [], ◌∷◌, ◌++◌, reverse, Option, Some, None, refl, sym, ap, subst, ◌∙◌}
use Rattle.std.specs.Prelude.{◌==◌, if◌then◌else◌, option_map}
use Rattle.std.specs.List.{list_any}
use Rattle.std.proofs.lemmas.Bool.{eq-eqb, eqb-true, both_ways}
use Rattle.klp_types.specs.declared.version.Version.{Version}
use Rattle.klp_types.specs.declared.version.Transition.{Transition}
use Rattle.klp_types.specs.Setting.{Setting, Function, functions_of, function_for, is_at, replaces}
use Rattle.klp_types.specs.declared.task.Task.{Task}
use Rattle.klp_model.specs.Task.{task_at}
use Rattle.klp_model.specs.State.{State, installed_patches}
use Rattle.klp_model.specs.Entries.{entries_of, is_site_loaded}
use Rattle.klp_types.specs.Entries.{entry_of, patches_site, entries_from}
use Rattle.klp_types.specs.Pick.{is_unpatched}
use Rattle.klp_model.specs.Blocked.{is_version}
use Rattle.klp_model.specs.Allowed.{AreDistinct, AreStacked, Allowed}
use Rattle.klp_types.proofs.EntryLemmas.{list_any-reverse}
use Rattle.klp_model.specs.declared.seen.Seen.{Seen}
use Rattle.klp_model.specs.Observed.{Frame, seen_from, IsHonestRun}
use Rattle.klp_model.specs.InPlace.{IsInPlace}
use Rattle.klp_model.specs.Consistent.{AreCurrent, is_of_patch, NoneOfPatch, below, NoneBelow, NoneMixed, site_at, site_of, AreNamed, AllNamed}
use Rattle.klp_model.specs.Versions.{version_in, chosen, others}
use Rattle.klp_model.proofs.VersionLemmas.{version_for, newest_in, distinct-reverse}
use Rattle.klp_model.proofs.PickLemmas.{now, current, at_rest_in, patched_in, unpatched_in}
use Rattle.klp_model.proofs.KeptLemmas.{IsKept}
use Rattle.klp_model.proofs.ObservedLemmas.{kept_from}
use Rattle.klp_model.proofs.LeftLemmas.{is_version-true, or_none, others_none, on_top, not_of_patch, passed, met, apart_below}

at_is : (own : Option ℕ) (site : ℕ) → is_at own site ≡ true → own ≡ Some site
at_is None site e = cc
at_is (Some own) site e = ap Some (eqb-true own site e)

found_site : (functions : List Function) (site number : ℕ) → function_for functions site ≡ Some number → site_at functions number ≡ Some site
found_site [] site number e = cc
found_site (function ∷ functions) site number e = by (is_at function.site site) refl e (λ n. found_site functions site n)
  where
    here : (n : ℕ) → Some 0 ≡ Some n → function.site ≡ Some site → site_at (function ∷ functions) n ≡ Some site
    here zero e is = is
    here (suc n) e is = cc

    further : (n : ℕ) (o : Option ℕ) → option_map suc o ≡ Some n → ((k : ℕ) → o ≡ Some k → site_at functions k ≡ Some site) → site_at (function ∷ functions) n ≡ Some site
    further n None e rest = cc
    further zero (Some k) e rest = cc
    further (suc n) (Some k) e rest = rest n cc

    by : (t : Bool) → is_at function.site site ≡ t → (if t then Some 0 else option_map suc (function_for functions site)) ≡ Some number
        → ((n : ℕ) → function_for functions site ≡ Some n → site_at functions n ≡ Some site) → site_at (function ∷ functions) number ≡ Some site
    by true is e rest = here number e (at_is function.site site is)
    by false is e rest = further number (function_for functions site) e rest

module _ (setting : Setting) where
  chosen_site : (site patch : ℕ) (function : Option ℕ) (replace : Bool) (older : Version) → function_for (functions_of setting patch) site ≡ function
      → site_of setting older ≡ Some site → site_of setting (chosen site patch function replace older) ≡ Some site
  chosen_site site patch (Some function) replace older is rest = found_site (functions_of setting patch) site function is
  chosen_site site patch None true older is rest = refl
  chosen_site site patch None false older is rest = rest

  -- the version of a site names the site
  version_site : (site : ℕ) (patches : List ℕ) → site_of setting (version_in setting site patches) ≡ Some site
  version_site site [] = refl
  version_site site (patch ∷ older) =
      chosen_site site patch (function_for (functions_of setting patch) site) (replaces setting patch) (version_in setting site older) refl (version_site site older)

  by_state : (site : ℕ) (moving : Option Transition) (patches : List ℕ) (task : ℤ) (t : Bool) → is_unpatched task ≡ t → AreDistinct patches
      → site_of setting (version_for setting moving patches task site) ≡ Some site
  by_state site moving patches task false is distinct = ap (site_of setting) (patched_in setting moving patches task site is) ∙ version_site site (reverse patches)
  by_state site None patches task true is distinct = ap (site_of setting) (at_rest_in setting patches task site) ∙ version_site site (reverse patches)
  by_state site (Some move) patches (negsuc n) true is distinct = cc
  by_state site (Some move) patches (pos n) true is distinct =
      subst (λ k. site_of setting (version_for setting (Some move) patches (pos k) site) ≡ Some site) (sym (eqb-true n 0 is))
      (ap (site_of setting) (unpatched_in setting move patches site distinct) ∙ version_site site (reverse (others move.patch patches)))

  all_named : (state : State) → Allowed setting state → (task : ℤ) (frames : List Frame) → AreCurrent (now setting state task) frames → AreNamed setting frames
  all_named state allowed task [] are = tt
  all_named state allowed task (frame ∷ frames) are =
      let version = (current setting (is_site_loaded setting state frame.site) state.moving (installed_patches state) task frame.site frame.version are.0).1 in
      (ap (site_of setting) (sym version) ∙ by_state frame.site state.moving (installed_patches state) task (is_unpatched task) refl allowed.distinct, all_named state allowed task frames are.1)

  same_some : (a b : ℕ) → Some a ≡ Some b → (a == b) ≡ true
  same_some a b e = let same : a ≡ b = cc in eq-eqb a b same

  -- a version of another site isn't blocked here
  module _ (site other : ℕ) (version : Version) (is_site : site_of setting version ≡ Some site) (apart : (site == other) ≡ false) (mp : ℕ) where
    unlike : (patches : List ℕ) → is_version version (version_in setting other patches) ≡ false
    unlike patches = by (is_version version (version_in setting other patches)) refl
      where
        by : (t : Bool) → is_version version (version_in setting other patches) ≡ t → t ≡ false
        by true is =
            absurd (both_ways (site == other) apart (same_some site other (sym is_site ∙ ap (site_of setting) (is_version-true version (version_in setting other patches) is) ∙ version_site other patches)))
        by false is = refl

    elsewhere_step : (patch : ℕ) (function : Option ℕ) (r t : Bool) (older : List ℕ) → (patch == mp) ≡ t
        → list_any (is_version version) (below other mp (entries_from setting other older)) ≡ false
        → list_any (is_version version) (below other mp (entry_of patch function r ++ entries_from setting other older)) ≡ false
    elsewhere_step patch function r false older is rest = ap (list_any (is_version version)) (passed setting other mp patch function r (entries_from setting other older) is) ∙ rest
    elsewhere_step patch (Some function) r true older is rest =
        ap (list_any (is_version version)) (met setting other mp patch (Some function) (entries_from setting other older) is)
        ∙ ap (λ v. is_version version v || false) (newest_in setting other older) ∙ or_none (is_version version (version_in setting other older)) (unlike older)
    elsewhere_step patch None true true older is rest =
        ap (list_any (is_version version)) (met setting other mp patch None (entries_from setting other older) is)
        ∙ ap (λ v. is_version version v || false) (newest_in setting other older) ∙ or_none (is_version version (version_in setting other older)) (unlike older)
    elsewhere_step patch None false true older is rest = rest

    elsewhere : (patches : List ℕ) → list_any (is_version version) (below other mp (entries_from setting other patches)) ≡ false
    elsewhere [] = refl
    elsewhere (patch ∷ older) =
        elsewhere_step patch (function_for (functions_of setting patch) other) (replaces setting patch && list_any (patches_site setting other) older) (patch == mp) older refl (elsewhere older)

  module _ (state : State) (allowed : Allowed setting state) (move : Transition) (is : state.moving ≡ Some move) where
    abbrev ps : List ℕ
    ps = installed_patches state

    -- a task of state 0
    old_frames : (frames : List Frame) → AreCurrent (now setting state (pos 0)) frames → NoneOfPatch move.patch frames
    old_frames [] are = tt
    old_frames (frame ∷ frames) are =
        let version = (current setting (is_site_loaded setting state frame.site) state.moving ps (pos 0) frame.site frame.version are.0).1 in
        let without = ap (λ m. version_for setting m ps (pos 0) frame.site) (sym is) ∙ version in (
          ap (is_of_patch move.patch) (sym without ∙ unpatched_in setting move ps frame.site allowed.distinct)
              ∙ not_of_patch setting frame.site move.patch move.patch (reverse (others move.patch ps)) (list_any-reverse (λ p. p == move.patch) (others move.patch ps) ∙ others_none move.patch ps),
          old_frames frames are.1,
        )

    here_below : (site : ℕ) → list_any (is_version (version_in setting site (reverse ps))) (below site move.patch (entries_from setting site (reverse ps))) ≡ false
    here_below site =
        apart_below setting site move.patch (reverse ps) (distinct-reverse ps allowed.distinct) (on_top setting move ps (subst (λ o. AreStacked setting o ps) is allowed.stacked))

    each_site : (site other : ℕ) (loaded : Bool) → list_any (is_version (version_in setting site (reverse ps))) (below other move.patch (if loaded then entries_from setting other (reverse ps) else [])) ≡ false
    each_site site other false = refl
    each_site site other true = by (site == other) refl
      where
        by : (t : Bool) → (site == other) ≡ t → list_any (is_version (version_in setting site (reverse ps))) (below other move.patch (entries_from setting other (reverse ps))) ≡ false
        by true same = subst (λ n. list_any (is_version (version_in setting site (reverse ps))) (below n move.patch (entries_from setting n (reverse ps))) ≡ false) (eqb-true site other same) (here_below site)
        by false apart = elsewhere site other (version_in setting site (reverse ps)) (version_site site (reverse ps)) apart move.patch (reverse ps)

    -- a task of state 1
    new_frames : (frames : List Frame) → AreCurrent (now setting state (pos 1)) frames → NoneBelow setting state move.patch frames
    new_frames [] are = tt
    new_frames (frame ∷ frames) are =
        let version = (current setting (is_site_loaded setting state frame.site) state.moving ps (pos 1) frame.site frame.version are.0).1 in (
          (λ other. subst (λ v. list_any (is_version v) (below other move.patch (entries_of setting state other)) ≡ false) (sym (patched_in setting state.moving ps (pos 1) frame.site refl) ∙ version)
              (each_site frame.site other (is_site_loaded setting state other))),
          new_frames frames are.1,
        )

pub none_mixed : (setting : Setting) (start : State) (first second : List Seen) → IsInPlace setting → IsHonestRun setting start (first ++ second)
    → NoneMixed setting (seen_from setting start first)
none_mixed setting start first second place run number task there move is =
    let both_ = kept_from setting start first second place run in
    let state = (seen_from setting start first).state in
    let frames = (seen_from setting start first).stacks number in
    let kept = subst (λ t. IsKept setting state t frames) there (both_.1 number) in (
      (λ zero_. old_frames setting state both_.0 move is frames (subst (λ x. AreCurrent (now setting state x) frames) zero_ kept.0)),
      (λ one. new_frames setting state both_.0 move is frames (subst (λ x. AreCurrent (now setting state x) frames) one kept.0)),
    )

pub versions_named : (setting : Setting) (start : State) (first second : List Seen) → IsInPlace setting → IsHonestRun setting start (first ++ second)
    → AllNamed setting (seen_from setting start first)
versions_named setting start first second place run number =
    let both_ = kept_from setting start first second place run in
    by both_.0 (task_at (seen_from setting start first).state.tasks number) (both_.1 number)
  where
    by : Allowed setting (seen_from setting start first).state → (task : Option Task) → IsKept setting (seen_from setting start first).state task ((seen_from setting start first).stacks number)
        → AreNamed setting ((seen_from setting start first).stacks number)
    by allowed None k = subst (AreNamed setting) (sym k) tt
    by allowed (Some task) k = all_named setting (seen_from setting start first).state allowed task.state ((seen_from setting start first).stacks number) k.0
