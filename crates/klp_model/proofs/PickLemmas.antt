-- What a task runs before and after the state changes.
use Rattle.std.proofs.Common.{◌≡◌, ◌⊎◌, inl, inr, ℕ, zero, suc, ◌+◌, ◌-◌, ◌<◌, ℤ, pos, negsuc, Bool, true, false, ◌&&◌, ◌||◌, cond, List, [], ◌∷◌, ◌++◌, reverse, length, Option, Some, None, is_some, refl, sym, ap, subst, ◌∙◌, arith}
use Rattle.std.specs.Prelude.{◌==◌, nat_lt, if◌then◌else◌, option_map}
use Rattle.std.specs.List.{list_any}
use Rattle.std.proofs.lemmas.Bool.{eq-eqb, eqb-true, ltb-true, ltb-false, or_parts, both_ways}
use Rattle.std.proofs.lemmas.List.{length-append, append-nil}
use Rattle.std.proofs.lemmas.List.Folds.{list_any-append}
use Rattle.klp_types.specs.declared.version.Version.{Version}
use Rattle.klp_types.specs.declared.version.Version.TheVariants.{Original, New}
use Rattle.klp_types.specs.declared.version.Entry.{Entry}
use Rattle.klp_types.specs.declared.version.Transition.{Transition}
use Rattle.klp_types.specs.declared.version.Target.{Target}
use Rattle.klp_types.specs.Image.{Object, Symbol, symbols_of, object_of}
use Rattle.klp_types.specs.Setting.{Setting, replaces}
use Rattle.klp_model.specs.Task.{at_target, is_at}
use Rattle.klp_model.specs.State.{State, installed_patches}
use Rattle.klp_model.specs.Entries.{entries_of, is_object_loaded, is_site_loaded}
use Rattle.klp_types.specs.Entries.{entries_from}
use Rattle.klp_model.specs.Pick.{pick_in}
use Rattle.klp_types.specs.Pick.{is_unpatched, entries_for, version_of, newest_version, target_of, address_of}
use Rattle.klp_model.specs.Blocked.{is_version, held_version, blocked_among, blocked_from, blocked}
use Rattle.klp_model.specs.Allowed.{is_one_of, AreDistinct}
use Rattle.klp_model.proofs.OrderLemmas.{left_out, from_on, distinct-put, equal_either_way}
use Rattle.klp_model.specs.Observed.{Frame, versions}
use Rattle.klp_model.specs.Consistent.{AreCurrent}
use Rattle.klp_model.specs.Versions.{version_in, others}
use Rattle.klp_model.proofs.VersionLemmas.{version_for, not_dropped, unmoved, newest_in, newest_others, newest_from_on, others-append, others-reverse, others_same, left_out-others, distinct-reverse}

abbrev pub now_of : Setting → Bool → Option Transition → List ℕ → ℤ → ℕ → Option Version
now_of setting loaded moving patches task site =
    option_map (λ (t : Target). t.version) (if loaded then target_of setting (newest_version site (entries_for moving task (if loaded then entries_from setting site (reverse patches) else []))) else None)

abbrev pub now : Setting → State → ℤ → ℕ → Option Version
now setting state task site = option_map (λ (t : Target). t.version) (pick_in setting state task site)

now_is : (setting : Setting) (state : State) (task : ℤ) (site : ℕ)
    → now setting state task site ≡ now_of setting (is_site_loaded setting state site) state.moving (installed_patches state) task site
now_is setting state task site = refl

shown_is : (version other : Version) (address : Option ℕ)
    → option_map (λ (t : Target). t.version) (option_map (λ address. record { version = version; address = address }) address) ≡ Some other → version ≡ other
shown_is version other None e = cc
shown_is version other (Some address) e = cc

module _ (setting : Setting) where
  pub current : (loaded : Bool) (moving : Option Transition) (patches : List ℕ) (task : ℤ) (site : ℕ) (version : Version)
      → now_of setting loaded moving patches task site ≡ Some version → (loaded ≡ true) × (version_for setting moving patches task site ≡ version)
  current true moving patches task site version e = (refl, shown_is (version_for setting moving patches task site) version (address_of setting (version_for setting moving patches task site)) e)
  current false moving patches task site version e = cc

  pub carry_one : (loaded : Bool) (a : Option Transition) (ps : List ℕ) (x : ℤ) (site : ℕ) (later : Bool) (b : Option Transition) (qs : List ℕ) (y : ℤ) (version : Version)
      → (loaded ≡ true → later ≡ true) → version_for setting a ps x site ≡ version_for setting b qs y site
      → now_of setting loaded a ps x site ≡ Some version → now_of setting later b qs y site ≡ Some version
  carry_one true a ps x site later b qs y version more same e =
      ap (λ l. now_of setting l b qs y site) (more refl) ∙ ap (λ v. option_map (λ (t : Target). t.version) (target_of setting v)) (sym same) ∙ e
  carry_one false a ps x site later b qs y version more same e = cc

  -- frames stay current where the version at each of their sites stays
  pub carry : (before after : State) (x y : ℤ)
      → ((site : ℕ) → is_site_loaded setting before site ≡ true → is_site_loaded setting after site ≡ true)
      → ((site : ℕ) → version_for setting before.moving (installed_patches before) x site ≡ version_for setting after.moving (installed_patches after) y site)
      → (frames : List Frame) → AreCurrent (now setting before x) frames → AreCurrent (now setting after y) frames
  carry before after x y more same [] are = tt
  carry before after x y more same (frame ∷ frames) are = (
    carry_one (is_site_loaded setting before frame.site) before.moving (installed_patches before) x frame.site (is_site_loaded setting after frame.site) after.moving (installed_patches after) y
        frame.version (more frame.site) (same frame.site) are.0,
    carry before after x y more same frames are.1,
  )

  pub at_rest_in : (patches : List ℕ) (task : ℤ) (site : ℕ) → version_for setting None patches task site ≡ version_in setting site (reverse patches)
  at_rest_in patches task site = unmoved site task (entries_from setting site (reverse patches)) ∙ newest_in setting site (reverse patches)

  pub patched_in : (moving : Option Transition) (patches : List ℕ) (task : ℤ) (site : ℕ) → is_unpatched task ≡ false
      → version_for setting moving patches task site ≡ version_in setting site (reverse patches)
  patched_in moving patches task site e = not_dropped site moving task (entries_from setting site (reverse patches)) e ∙ newest_in setting site (reverse patches)

  pub unpatched_in : (move : Transition) (patches : List ℕ) (site : ℕ) → AreDistinct patches
      → version_for setting (Some move) patches (pos 0) site ≡ version_in setting site (reverse (others move.patch patches))
  unpatched_in move patches site distinct =
      newest_others setting site move (reverse patches) (distinct-reverse patches distinct) ∙ ap (version_in setting site) (others-reverse move.patch patches)

  -- Enable
  pub enabling : (patch : ℕ) (target : Bool) (patches : List ℕ) (task : ℤ) (site : ℕ) → AreDistinct patches → is_one_of patch patches ≡ false
      → version_for setting None patches task site ≡ version_for setting (Some (record { patch = patch; target = target })) (patches ++ patch ∷ []) (pos 0) site
  enabling patch target patches task site distinct away =
      at_rest_in patches task site
      ∙ ap (λ list. version_in setting site (reverse list))
      (sym (others-append patch patches (patch ∷ []) ∙ ap (λ b. others patch patches ++ cond b [] (patch ∷ [])) (eq-eqb patch patch refl) ∙ append-nil (others patch patches) ∙ others_same patch patches away))
      ∙ sym (unpatched_in (record { patch = patch; target = target }) (patches ++ patch ∷ []) site (distinct-put patch patches distinct away))

  -- a disabling starts
  pub disabling : (moving : Option Transition) (patches : List ℕ) (task : ℤ) (site : ℕ) → version_for setting None patches task site ≡ version_for setting moving patches (pos 1) site
  disabling moving patches task site = at_rest_in patches task site ∙ sym (patched_in moving patches (pos 1) site refl)

  -- the target doesn't count
  retarget : (move other : Transition) (task : ℤ) (site : ℕ) (entries : List Entry) → move.patch ≡ other.patch
      → newest_version site (entries_for (Some move) task entries) ≡ newest_version site (entries_for (Some other) task entries)
  retarget move other task site [] same = refl
  retarget move other task site (newest ∷ older) same = ap (λ p. newest_version site (if p == newest.patch && is_unpatched task then older else newest ∷ older)) same

  pub turning : (move other : Transition) (patches : List ℕ) (task : ℤ) (site : ℕ) → move.patch ≡ other.patch
      → version_for setting (Some move) patches task site ≡ version_for setting (Some other) patches task site
  turning move other patches task site same = retarget move other task site (entries_from setting site (reverse patches)) same

  -- a transition is complete
  pub leaving : (move : Transition) (patches : List ℕ) (task : ℤ) (site : ℕ) → AreDistinct patches
      → version_for setting (Some move) patches (pos 0) site ≡ version_for setting None (left_out move.patch patches) task site
  leaving move patches task site distinct =
      unpatched_in move patches site distinct ∙ ap (λ list. version_in setting site (reverse list)) (sym (left_out-others move.patch patches distinct))
      ∙ sym (at_rest_in (left_out move.patch patches) task site)

  pub settling : (move : Transition) (patches : List ℕ) (task : ℤ) (site : ℕ) → version_for setting (Some move) patches (pos 1) site ≡ version_for setting None patches task site
  settling move patches task site = sym (disabling (Some move) patches task site)

  pub replacing : (move : Transition) (patches : List ℕ) (task : ℤ) (site : ℕ) → replaces setting move.patch ≡ true → is_one_of move.patch patches ≡ true
      → version_for setting (Some move) patches (pos 1) site ≡ version_for setting None (from_on move.patch patches) task site
  replacing move patches task site replace there =
      patched_in (Some move) patches (pos 1) site refl ∙ sym (newest_from_on setting site move.patch patches replace there)
      ∙ sym (at_rest_in (from_on move.patch patches) task site)

-- sleepers
pub is_version-refl : (version : Version) → is_version version version ≡ true
is_version-refl (Original site) = eq-eqb site site refl
is_version-refl (New patch function) = ap (λ b. b && function == function) (eq-eqb patch patch refl) ∙ eq-eqb function function refl

or_false : (b : Bool) → (b || false) ≡ false → b ≡ false
or_false true e = e
or_false false e = refl

pub zero_or_one : (move : Option Transition) (state : ℤ) → (is_at true state || is_at false state) ≡ true → (state ≡ pos 1) ⊎ (state ≡ pos 0)
zero_or_one move (negsuc n) e = cc
zero_or_one move (pos n) e = by (n == 1) refl e
  where
    by : (t : Bool) → (n == 1) ≡ t → (t || n == 0) ≡ true → (pos n ≡ pos 1) ⊎ (pos n ≡ pos 0)
    by true is e = inl (ap pos (eqb-true n 1 is))
    by false is e = inr (ap pos (eqb-true n 0 e))

-- a version that isn't blocked is the same at the target
module _ (site : ℕ) (patch : ℕ) where
  abbrev seen_by : Bool → ℤ → List Entry → Version
  seen_by target task entries = newest_version site (entries_for (Some (record { patch = patch; target = target })) task entries)

  abbrev held : Bool → List Entry → List Version
  held target entries = blocked_among site (record { patch = patch; target = target }) entries

  free_at : (target : Bool) (task : ℤ) (newest : Entry) (older : List Entry) (t : Bool) → (patch == newest.patch) ≡ t → (task ≡ pos 1) ⊎ (task ≡ pos 0)
      → list_any (is_version (seen_by target task (newest ∷ older))) (held target (newest ∷ older)) ≡ false
      → seen_by target task (newest ∷ older) ≡ seen_by target (at_target target) (newest ∷ older)
  free_at target task newest older false is at free =
      ap (λ b. newest_version site (if b && is_unpatched task then older else newest ∷ older)) is
      ∙ sym (ap (λ b. newest_version site (if b && is_unpatched (at_target target) then older else newest ∷ older)) is)
  free_at true task newest older true is (inl e) free = ap (λ x. seen_by true x (newest ∷ older)) e
  free_at false task newest older true is (inr e) free = ap (λ x. seen_by false x (newest ∷ older)) e
  free_at true task newest older true is (inr e) free =
      let at_zero = subst (λ x. list_any (is_version (seen_by true x (newest ∷ older))) (held true (newest ∷ older)) ≡ false) e free in
      let below = subst (λ b. list_any (is_version (newest_version site (if b && true then older else newest ∷ older))) (held true (newest ∷ older)) ≡ false) is at_zero in
      let own = subst (λ b. list_any (is_version (newest_version site older)) (if b then held_version site true newest older ∷ [] else held true older) ≡ false) (equal_either_way newest.patch patch ∙ is) below in
      absurd (both_ways (is_version (newest_version site older) (newest_version site older)) (or_false (is_version (newest_version site older) (newest_version site older)) own) (is_version-refl (newest_version site older)))
  free_at false task newest older true is (inl e) free =
      let at_one = subst (λ x. list_any (is_version (seen_by false x (newest ∷ older))) (held false (newest ∷ older)) ≡ false) e free in
      let top = subst (λ b. list_any (is_version (newest_version site (if b && false then older else newest ∷ older))) (held false (newest ∷ older)) ≡ false) is at_one in
      let own = subst (λ b. list_any (is_version (version_of site newest.func newest.patch)) (if b then held_version site false newest older ∷ [] else held false older) ≡ false) (equal_either_way newest.patch patch ∙ is) top in
      let v = version_of site newest.func newest.patch in
      absurd (both_ways (is_version v v) (or_false (is_version v v) own) (is_version-refl v))

  pub free_same : (target : Bool) (task : ℤ) (entries : List Entry) → (task ≡ pos 1) ⊎ (task ≡ pos 0)
      → list_any (is_version (seen_by target task entries)) (held target entries) ≡ false
      → seen_by target task entries ≡ seen_by target (at_target target) entries
  free_same target task [] at free = refl
  free_same target task (newest ∷ older) at free = free_at target task newest older (patch == newest.patch) refl at free

-- each site's blocked versions are among all
pub blocked_at : (setting : Setting) (state : State) (move : Transition) (test : Version → Bool) (first : ℕ) (symbols : List Symbol) (k : ℕ)
    → list_any test (blocked_from setting state move first symbols) ≡ false → k < length symbols
    → list_any test (blocked_among (first + k) move (entries_of setting state (first + k))) ≡ false
blocked_at setting state move test first [] k none inside = absurd (omega (arith, inside))
blocked_at setting state move test first (symbol ∷ symbols) zero none inside =
    let e : first + 0 ≡ first = omega arith in
    rw e (or_parts (list_any test (blocked_among first move (entries_of setting state first))) (list_any test (blocked_from setting state move (suc first) symbols))
    (sym (list_any-append test (blocked_among first move (entries_of setting state first)) (blocked_from setting state move (suc first) symbols)) ∙ none)).0
blocked_at setting state move test first (symbol ∷ symbols) (suc k) none inside =
    let e : suc first + k ≡ first + suc k = omega arith in
    rw (← e) (blocked_at setting state move test (suc first) symbols k
    (or_parts (list_any test (blocked_among first move (entries_of setting state first))) (list_any test (blocked_from setting state move (suc first) symbols))
    (sym (list_any-append test (blocked_among first move (entries_of setting state first)) (blocked_from setting state move (suc first) symbols)) ∙ none)).1 (omega (arith, inside)))

-- a site whose object is loaded is one of the image
pub site_inside : (objects : List Object) (site : ℕ) → is_some (object_of objects site) ≡ true → site < length (symbols_of objects)
site_inside [] site e = cc
site_inside (object ∷ objects) site e = by (nat_lt site (length object.symbols)) refl e (site_inside objects (site - length object.symbols))
  where
    mapped : (o : Option ℕ) → is_some (option_map suc o) ≡ true → is_some o ≡ true
    mapped None e = e
    mapped (Some x) e = refl

    by : (t : Bool) → nat_lt site (length object.symbols) ≡ t → is_some (if t then Some 0 else option_map suc (object_of objects (site - length object.symbols))) ≡ true
        → (is_some (object_of objects (site - length object.symbols)) ≡ true → site - length object.symbols < length (symbols_of objects))
        → site < length (object.symbols ++ symbols_of objects)
    by true is e rest = omega (arith, length-append object.symbols (symbols_of objects), ltb-true site (length object.symbols) is)
    by false is e rest =
        omega (arith, length-append object.symbols (symbols_of objects), ltb-false site (length object.symbols) is, rest (mapped (object_of objects (site - length object.symbols)) e))

loaded_some : (state : State) (object : Option ℕ) → is_object_loaded state object ≡ true → is_some object ≡ true
loaded_some state None e = cc
loaded_some state (Some object) e = refl

module _ (setting : Setting) (state : State) (move : Transition) (is : state.moving ≡ Some move) where
  one_free : (task : ℤ) (site : ℕ) (version : Version) → (task ≡ pos 1) ⊎ (task ≡ pos 0) → now setting state task site ≡ Some version
      → list_any (is_version version) (blocked setting state move) ≡ false → now setting state (at_target move.target) site ≡ Some version
  one_free task site version at e free =
      let found = current setting (is_site_loaded setting state site) state.moving (installed_patches state) task site version e in
      let inside = site_inside setting.image.objects site (loaded_some state (object_of setting.image.objects site) found.0) in
      let entries = entries_from setting site (reverse (installed_patches state)) in
      let here = subst (λ l. list_any (is_version version) (blocked_among site move (if l then entries else [])) ≡ false) found.0
      (let e : 0 + site ≡ site = omega arith in
      subst (λ n. list_any (is_version version) (blocked_among n move (entries_of setting state n)) ≡ false) e (blocked_at setting state move (is_version version) 0 (symbols_of setting.image.objects) site free inside)) in
      let moved = subst (λ m. newest_version site (entries_for m task entries) ≡ version) is found.1 in
      let own = subst (λ v. list_any (is_version v) (blocked_among site move entries) ≡ false) (sym moved) here in
      carry_one setting (is_site_loaded setting state site) state.moving (installed_patches state) task site (is_site_loaded setting state site) state.moving (installed_patches state) (at_target move.target) version
      (λ l. l) (subst (λ m. newest_version site (entries_for m task entries) ≡ newest_version site (entries_for m (at_target move.target) entries)) (sym is)
      (free_same site move.patch move.target task entries at own)) e

  -- a sleeper that switches
  pub all_free : (task : ℤ) (frames : List Frame) → (task ≡ pos 1) ⊎ (task ≡ pos 0) → AreCurrent (now setting state task) frames
      → list_any (λ v. list_any (is_version v) (blocked setting state move)) (versions frames) ≡ false → AreCurrent (now setting state (at_target move.target)) frames
  all_free task [] at are free = tt
  all_free task (frame ∷ frames) at are free =
      let parts = or_parts (list_any (is_version frame.version) (blocked setting state move)) (list_any (λ v. list_any (is_version v) (blocked setting state move)) (versions frames)) free in
      (one_free task frame.site frame.version at are.0 parts.0, all_free task frames at are.1 parts.1)
