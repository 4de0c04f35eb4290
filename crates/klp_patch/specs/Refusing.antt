-- The callbacks of a patch, object by object, in the form in which loops over its objects run them.
use Rattle.std.specs.Prelude.{ℕ, ℤ, pos, Bool, List, [], ◌∷◌, ◌++◌, take, slice_get, Option, Some, None, if◌then◌else◌}
use Rattle.klp_types.specs.declared.callback.Which.{Which}
use Rattle.klp_types.specs.declared.callback.Which.TheVariants.{Pre}
use Rattle.klp_types.specs.Setting.{PatchObject}
use Rattle.klp_types.specs.Script.{is_success}
use Rattle.klp_types.specs.Callbacks.{Call, script_for, call_of, calls_of, refuses}
use Rattle.klp_model.specs.Callbacks.{status_of}
use Rattle.klp_modules.specs.Names.{ModuleTable}
use Rattle.klp_catalog.specs.Catalog.{Catalog}
use Rattle.klp_catalog.specs.Runs.{objects_at}
use Rattle.klp_patch.specs.Loaded.{is_loaded_in, loaded_from}

-- the callbacks of a kind, for the loaded ones of the first `end` objects of a patch
abbrev pub loaded_calls : Catalog → ModuleTable → ℕ → Which → ℕ → List Call
loaded_calls catalog modules patch which end = calls_of patch which (loaded_from (is_loaded_in modules) 0 (take end (objects_at catalog patch)))

-- the callback of one object, if the object is loaded
abbrev pub call_for : (ℕ → Bool) → ℕ → Which → ℕ → Option PatchObject → List Call
call_for loaded patch which place None = []
call_for loaded patch which place (Some object) = if loaded object.object then call_of patch place which (script_for which object.callbacks) else []

-- the callback of the patch's object at this place, if the object is loaded
abbrev pub loaded_call : Catalog → ModuleTable → ℕ → Which → ℕ → List Call
loaded_call catalog modules patch which place = call_for (is_loaded_in modules) patch which place (slice_get (objects_at catalog patch) place)

-- the status of the callback of one object: 0 if none runs
abbrev pub status_for : (ℕ → Bool) → Which → Option PatchObject → ℤ
status_for loaded which None = pos 0
status_for loaded which (Some object) = if loaded object.object then status_of (script_for which object.callbacks) else pos 0

-- the status of that callback: 0 if none runs
abbrev pub loaded_status : Catalog → ModuleTable → ℕ → Which → ℕ → ℤ
loaded_status catalog modules patch which place = status_for (is_loaded_in modules) which (slice_get (objects_at catalog patch) place)

-- the pre-patch callbacks, up to and including the first that refuses
abbrev pub pre_calls : ℕ → List (ℕ × PatchObject) → List Call
pre_calls patch [] = []
pre_calls patch (object ∷ objects) = call_of patch object.0 Pre (script_for Pre object.1.callbacks) ++ (if refuses object then [] else pre_calls patch objects)

-- the status, if it refuses
abbrev pub refusal_of : ℤ → Option ℤ
refusal_of status = if is_success status then None else Some status
