-- The rows of a table that an event may change.
use Rattle.std.specs.Prelude.{ℕ, ◌+◌, Bool, false, ◌||◌, length, Option, Some, None, if◌then◌else◌}
use Rattle.klp_types.specs.declared.limits.TheConstants.{MAX_SITES}
use Rattle.klp_types.specs.Image.{object_of}
use Rattle.klp_types.specs.Setting.{Setting, functions_of, replaces, is_at}
use Rattle.klp_types.specs.Entries.{patches_site}
use Rattle.klp_core.specs.Sites.{sites_in}
use Rattle.klp_model.specs.declared.event.Event.{Event}
use Rattle.klp_model.specs.declared.event.Event.TheVariants.{Enable, SetEnabled, Poll, Coming, Going}

-- whether an event of a patch may change the row: rows of its functions' sites, and any row if the patch is cumulative
abbrev pub is_touched_by : Setting → Option ℕ → ℕ → Bool
is_touched_by setting None site = false
is_touched_by setting (Some patch) site = replaces setting patch || patches_site setting site patch

-- the patch whose entries or transition an event changes; `moving` is the patch in transition before it
abbrev pub patch_moved : Option ℕ → Event → Option ℕ
patch_moved moving (Enable patch) = Some patch
patch_moved moving (SetEnabled patch value) = Some patch
patch_moved moving Poll = moving
patch_moved moving other = None

-- the module that an event loads or unloads
abbrev pub module_moved : Event → Option ℕ
module_moved (Coming object) = Some object
module_moved (Going object) = Some object
module_moved other = None

-- whether a site lies in this object, if there is one
abbrev pub is_inside : Setting → Option ℕ → ℕ → Bool
is_inside setting None site = false
is_inside setting (Some object) site = is_at (object_of setting.image.objects site) object

-- whether an event may change the row of a site
abbrev pub is_touched : Setting → Option ℕ → Event → ℕ → Bool
is_touched setting moving event site = is_touched_by setting (patch_moved moving event) site || is_inside setting (module_moved event) site

-- how many rows an event of a patch may change: one for each of its functions, and all if the patch is cumulative
abbrev pub rows_of_patch : Setting → Option ℕ → ℕ
rows_of_patch setting None = 0
rows_of_patch setting (Some patch) = if replaces setting patch then MAX_SITES else length (functions_of setting patch)

-- how many rows an event of a module may change: one for each of its sites
abbrev pub rows_of_module : Setting → Option ℕ → ℕ
rows_of_module setting None = 0
rows_of_module setting (Some object) = sites_in setting.image.objects object

-- how many rows an event may change; `moving` is the patch in transition before it
abbrev pub rows_touched : Setting → Option ℕ → Event → ℕ
rows_touched setting moving event = rows_of_patch setting (patch_moved moving event) + rows_of_module setting (module_moved event)
