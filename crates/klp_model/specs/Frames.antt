-- What a sleeping task may be inside of, and in which object that is.
use Rattle.std.specs.Prelude.{ℕ, ◌-◌, Bool, false, not, ◌==◌, ◌&&◌, nat_lt, List, [], ◌∷◌, length, Option, Some, None, if◌then◌else◌}
use Rattle.std.specs.List.{list_any}
use Rattle.klp_types.specs.declared.version.Version.{Version}
use Rattle.klp_types.specs.declared.version.Version.TheVariants.{Original, New}
use Rattle.klp_types.specs.declared.task.Mode.TheVariants.{Asleep}
use Rattle.klp_types.specs.Image.{symbols_of, object_of}
use Rattle.klp_types.specs.Setting.{Setting, PatchObject, objects_of, functions_of}
use Rattle.klp_types.specs.declared.task.Task.{Task}
use Rattle.klp_model.specs.Task.{is_mode}

-- whether the image doesn't have the site, or the catalog the function
abbrev pub is_bad : Setting → Version → Bool
is_bad setting (Original site) = not (nat_lt site (length (symbols_of setting.image.objects)))
is_bad setting (New patch function) = not (nat_lt function (length (functions_of setting patch)))

-- the object of a patch's function; functions are counted over the patch's objects in order
abbrev pub object_of_function : List PatchObject → ℕ → Option ℕ
object_of_function [] function = None
object_of_function (object ∷ objects) function =
    if nat_lt function (length object.functions) then Some object.object else object_of_function objects (function - length object.functions)

-- the object of a version: of an original the object of its site, of a new function the object that it is for
abbrev pub object_of_version : Setting → Version → Option ℕ
object_of_version setting (Original site) = object_of setting.image.objects site
object_of_version setting (New patch function) = object_of_function (objects_of setting patch) function

abbrev pub is_object : ℕ → Option ℕ → Bool
is_object object None = false
is_object object (Some other) = other == object

-- whether a task sleeps inside of the object
abbrev pub is_inside : Setting → ℕ → Option Task → Bool
is_inside setting object None = false
is_inside setting object (Some task) = is_mode task.mode Asleep && list_any (λ v. is_object object (object_of_version setting v)) task.frames
