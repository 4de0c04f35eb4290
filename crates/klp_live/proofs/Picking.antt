-- What a table answers is what the machine picks.
use Rattle.std.proofs.Common.{◌≡◌, ℕ, ℤ, zero, suc, ◌&&◌, ◌<◌, Bool, true, false, List, [], ◌∷◌, ◌++◌, length, reverse, Option, Some, None, is_some, option_map, unwrap_or, slice_get, refl, sym, ap, subst, ◌∙◌, arith, if◌then◌else◌}
use Rattle.std.specs.List.{list_any}
use Rattle.std.specs.Result.{result_ok}
use Rattle.klp_types.specs.declared.task.Task.{Task}
use Rattle.klp_types.specs.declared.version.Entry.{Entry}
use Rattle.klp_types.specs.declared.version.Target.{Target}
use Rattle.klp_types.specs.declared.version.Transition.{Transition}
use Rattle.klp_types.specs.declared.version.Version.{Version}
use Rattle.klp_types.specs.declared.version.Version.TheVariants.{Original}
use Rattle.klp_types.specs.Entries.{patches_site, entry_of, entries_from}
use Rattle.klp_types.specs.Image.{symbols_of, symbol_of, object_of}
use Rattle.klp_types.specs.Pick.{moves, is_unpatched, entries_for, version_of, newest_version, address_of, target_of}
use Rattle.klp_types.specs.Setting.{Setting, Function, functions_of, function_for, is_at, replaces}
use Rattle.klp_model.specs.Entries.{is_object_loaded, is_site_loaded, entries_of}
use Rattle.klp_model.specs.Pick.{pick, pick_by}
use Rattle.klp_model.specs.State.{State, installed_patches}
use Rattle.klp_model.specs.Task.{task_at}
use Rattle.klp_model.proofs.PickLemmas.{site_inside}
use Rattle.klp_live.specs.Found.{begun, entered_if, entered}

there : {A : Type 0} (xs : List A) (i : ℕ) → i < length xs → is_some (slice_get xs i) ≡ true
there [] i at = absurd (omega arith)
there (x ∷ xs) zero at = refl
there (x ∷ xs) (suc i) at = there xs i (omega arith)

mapped : {A B : Type 0} (f : A → B) (o : Option A) → is_some o ≡ true → is_some (option_map f o) ≡ true
mapped f None e = absurd (cc e)
mapped f (Some x) e = refl

-- the function that stands in for a site is one of the list
named : (functions : List Function) (site number : ℕ) → function_for functions site ≡ Some number → is_some (slice_get functions number) ≡ true
named [] site number is = absurd (cc is)
named (function ∷ functions) site number is = by (is_at function.site site) (function_for functions site) (λ k e. named functions site k e) is
  where
    by : (t : Bool) (own : Option ℕ) → ((k : ℕ) → own ≡ Some k → is_some (slice_get functions k) ≡ true) → (if t then Some 0 else option_map suc own) ≡ Some number
        → is_some (slice_get (function ∷ functions) number) ≡ true
    by true own rest e = let same : 0 ≡ number = cc e in subst (λ n. is_some (slice_get (function ∷ functions) n) ≡ true) same refl
    by false None rest e = absurd (cc e)
    by false (Some k) rest e = let same : suc k ≡ number = cc e in subst (λ n. is_some (slice_get (function ∷ functions) n) ≡ true) same (rest k refl)

module _ (setting : Setting) (site : ℕ) (inside : is_some (object_of setting.image.objects site) ≡ true) where
  abbrev AllBegin : List Entry → Type 0
  AllBegin [] = Unit {0}
  AllBegin (entry ∷ entries) = (is_some (address_of setting (version_of site entry.func entry.patch)) ≡ true) × AllBegin entries

  original_begins : is_some (address_of setting (Original site)) ≡ true
  original_begins = mapped _ (symbol_of setting.image site) (there (symbols_of setting.image.objects) site (site_inside setting.image.objects site inside))

  entries_begin : (patches : List ℕ) → AllBegin (entries_from setting site patches)
  entries_begin [] = tt
  entries_begin (patch ∷ older) = by (function_for (functions_of setting patch) site) refl (replaces setting patch && list_any (patches_site setting site) older) (entries_begin older)
    where
      by : (own : Option ℕ) → function_for (functions_of setting patch) site ≡ own → (undoes : Bool) → AllBegin (entries_from setting site older) → AllBegin (entry_of patch own undoes ++ entries_from setting site older)
      by (Some number) is undoes rest = (mapped _ (slice_get (functions_of setting patch) number) (named (functions_of setting patch) site number is), rest)
      by None is true rest = (original_begins, rest)
      by None is false rest = rest

  chosen_begin : (moving : Option Transition) (own : ℤ) (entries : List Entry) → AllBegin entries → AllBegin (entries_for moving own entries)
  chosen_begin moving own [] all = tt
  chosen_begin moving own (newest ∷ older) all = by (moves moving newest.patch && is_unpatched own)
    where
      by : (t : Bool) → AllBegin (if t then older else newest ∷ older)
      by true = all.1
      by false = all

  newest_begins : (entries : List Entry) → AllBegin entries → is_some (address_of setting (newest_version site entries)) ≡ true
  newest_begins [] all = original_begins
  newest_begins (newest ∷ older) all = all.0

begun_is : (version : Version) (address : Option ℕ) → is_some address ≡ true
    → ◌≡◌ {A = Option Target} (Some (record { version = version; address = unwrap_or address 0 })) (option_map (λ a. record { version = version; address = a }) address)
begun_is version None e = absurd (cc e)
begun_is version (Some a) e = refl

loaded_inside : (state : State) (own : Option ℕ) → is_object_loaded state own ≡ true → is_some own ≡ true
loaded_inside state None e = absurd (cc e)
loaded_inside state (Some object) e = refl

-- a call finds a target exactly where the machine picks one, and the same
pub entered_is : (setting : Setting) (state : State) (task site : ℕ) → result_ok (entered setting state task site) ≡ pick setting state task site
entered_is setting state task site = by (is_site_loaded setting state site) refl (task_at state.tasks task)
  where
    by : (b : Bool) → is_site_loaded setting state site ≡ b → (own : Option Task)
        → result_ok (entered_if setting state site (is_site_loaded setting state site) own) ≡ pick_by setting state site own
    by false is None = rw is refl
    by false is (Some own) = rw is refl
    by true is None = rw is refl
    by true is (Some own) =
        let inside = loaded_inside state (object_of setting.image.objects site) is in
        let patches = reverse (installed_patches state) in
        let entries = entries_from setting site patches in
        let chosen = entries_for state.moving own.state entries in
        let here : entries_of setting state site ≡ entries = ap (λ b. if b then entries else []) is in
        let begins = newest_begins setting site inside chosen (chosen_begin setting site inside state.moving own.state entries (entries_begin setting site inside patches)) in
        ap (λ b. result_ok (entered_if setting state site b (Some own))) is
        ∙ ap (λ es. Some (begun setting (newest_version site (entries_for state.moving own.state es)))) here
        ∙ begun_is (newest_version site chosen) (address_of setting (newest_version site chosen)) begins
        ∙ sym (ap (λ b. if b then target_of setting (newest_version site (entries_for state.moving own.state (entries_of setting state site))) else None) is
        ∙ ap (λ es. target_of setting (newest_version site (entries_for state.moving own.state es))) here)
