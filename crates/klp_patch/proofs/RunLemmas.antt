-- One run of a callback.
use Rattle.std.proofs.Common.{◌≡◌, ℕ, true, cond, [], Option, Some, None, sym, ap, ◌∙◌}
use Rattle.std.specs.Prelude.{slice_get, option_map, unwrap_or}
use Rattle.klp_types.specs.declared.callback.Which.{Which}
use Rattle.klp_types.specs.Setting.{PatchObject}
use Rattle.klp_types.specs.Callbacks.{script_for, call_of}
use Rattle.klp_modules.specs.Names.{ModuleTable}
use Rattle.klp_catalog.specs.Catalog.{Catalog}
use Rattle.klp_catalog.specs.Runs.{callbacks_of, objects_at, script_at}
use Rattle.klp_patch.specs.Loaded.{is_loaded_in}
use Rattle.klp_patch.specs.Refusing.{loaded_call, call_for}

call_at : (modules : ModuleTable) (patch place object : ℕ) (which : Which) (found : Option PatchObject)
    → Some object ≡ option_map (λ (o : PatchObject). o.object) found → is_loaded_in modules object ≡ true
    → call_for (is_loaded_in modules) patch which place found ≡ call_of patch place which (script_for which (callbacks_of found))
call_at modules patch place object which None there loaded = let never : ⊥ = cc in absurd never
call_at modules patch place object which (Some o) there loaded =
    let own : object ≡ o.object = ap (λ f. unwrap_or f object) there in
    let here : is_loaded_in modules o.object ≡ true = ap (is_loaded_in modules) (sym own) ∙ loaded in
    ap (λ b. cond b (call_of patch place which (script_for which o.callbacks)) []) here

-- the callback of a loaded object runs
pub call_there : (catalog : Catalog) (modules : ModuleTable) (patch place object : ℕ) (which : Which)
    → Some object ≡ option_map (λ (o : PatchObject). o.object) (slice_get (objects_at catalog patch) place) → is_loaded_in modules object ≡ true
    → loaded_call catalog modules patch which place ≡ call_of patch place which (script_at catalog patch place which)
call_there catalog modules patch place object which there loaded = call_at modules patch place object which (slice_get (objects_at catalog patch) place) there loaded
