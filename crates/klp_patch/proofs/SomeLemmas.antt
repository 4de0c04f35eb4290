-- Whether there is a callback among some, and that there are no runs without one.
use Rattle.std.proofs.Common.{◌≡◌, ℕ, ◌+◌, Bool, true, false, List, [], ◌∷◌, ◌++◌, Option, Some, None, refl, sym, ap, ◌∙◌, if◌then◌else◌}
use Rattle.std.specs.Prelude.{is_some, not, ◌||◌}
use Rattle.std.specs.List.{list_any}
use Rattle.std.proofs.lemmas.Bool.{false≢true}
use Rattle.klp_types.specs.declared.callback.Which.{Which}
use Rattle.klp_types.specs.Entries.{is_empty}
use Rattle.klp_types.specs.Setting.{PatchObject, Callback}
use Rattle.klp_types.specs.Script.{Script}
use Rattle.klp_types.specs.Callbacks.{Call, call_of, calls_of, script_for}
use Rattle.klp_modules.specs.Names.{ModuleTable}
use Rattle.klp_catalog.specs.Catalog.{Catalog}
use Rattle.klp_catalog.specs.Runs.{has_callbacks, objects_at}
use Rattle.klp_patch.specs.Loaded.{is_loaded_in, loaded_from, loaded_in}
use Rattle.klp_patch.specs.Calls.{are_some}

pub some-first : (xs ys : List Call) → are_some xs ≡ true → true ≡ are_some (xs ++ ys)
some-first [] ys some = absurd (false≢true some)
some-first (x ∷ xs) ys some = refl

pub some-behind : (xs ys : List Call) → are_some xs ≡ false → are_some (xs ++ ys) ≡ are_some ys
some-behind [] ys none = refl
some-behind (x ∷ xs) ys none = absurd (false≢true (sym none))

pub some-append : (xs ys : List Call) → are_some (xs ++ ys) ≡ (are_some xs || are_some ys)
some-append [] ys = refl
some-append (x ∷ xs) ys = refl

pub some-call : (patch place : ℕ) (which : Which) (script : Option Script) → is_some script ≡ are_some (call_of patch place which script)
some-call patch place which None = refl
some-call patch place which (Some script) = refl

none_for : (which : Which) (callbacks : List Callback) → not (is_empty callbacks) ≡ false → script_for which callbacks ≡ None
none_for which [] none = refl
none_for which (callback ∷ callbacks) some = absurd (false≢true (sym some))

none_of : (loaded : ℕ → Bool) (patch : ℕ) (which : Which) (place : ℕ) (objects : List PatchObject)
    → list_any (λ (o : PatchObject). not (is_empty o.callbacks)) objects ≡ false → calls_of patch which (loaded_from loaded place objects) ≡ []
none_of loaded patch which place [] none = refl
none_of loaded patch which place (object ∷ objects) none = by (none_of loaded patch which (place + 1) objects) (not (is_empty object.callbacks)) refl none (loaded object.object)
  where
    by : (list_any (λ (o : PatchObject). not (is_empty o.callbacks)) objects ≡ false → calls_of patch which (loaded_from loaded (place + 1) objects) ≡ [])
        → (some : Bool) → not (is_empty object.callbacks) ≡ some → (some || list_any (λ (o : PatchObject). not (is_empty o.callbacks)) objects) ≡ false
        → (is : Bool) → calls_of patch which (if is then (place, object) ∷ loaded_from loaded (place + 1) objects else loaded_from loaded (place + 1) objects) ≡ []
    by later true some wrong is = absurd (false≢true (sym wrong))
    by later false some rest true =
        ap (λ script. call_of patch place which script ++ calls_of patch which (loaded_from loaded (place + 1) objects)) (none_for which object.callbacks some) ∙ later rest
    by later false some rest false = later rest

-- a patch without callbacks runs none
pub none_run : (catalog : Catalog) (modules : ModuleTable) (patch : ℕ) (which : Which) → has_callbacks catalog patch ≡ false → calls_of patch which (loaded_in catalog modules patch) ≡ []
none_run catalog modules patch which none = none_of (is_loaded_in modules) patch which 0 (objects_at catalog patch) none
