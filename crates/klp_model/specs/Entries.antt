-- The entries of a site, computed from the list of installed patches.
use Rattle.std.specs.Prelude.{ℕ, Bool, false, not, List, [], reverse, Option, Some, None, if◌then◌else◌}
use Rattle.klp_types.specs.declared.version.Entry.{Entry}
use Rattle.klp_types.specs.Image.{object_of}
use Rattle.klp_types.specs.Setting.{Setting}
use Rattle.klp_types.specs.Entries.{entries_from, is_empty}
use Rattle.klp_model.specs.State.{State, is_loaded, installed_patches}

-- whether the image has the site and its object is loaded
abbrev pub is_object_loaded : State → Option ℕ → Bool
is_object_loaded state None = false
is_object_loaded state (Some object) = is_loaded state object

abbrev pub is_site_loaded : Setting → State → ℕ → Bool
is_site_loaded setting state site = is_object_loaded state (object_of setting.image.objects site)

-- the entries of a site, newest first; none if its object isn't loaded
abbrev pub entries_of : Setting → State → ℕ → List Entry
entries_of setting state site =
    if is_site_loaded setting state site then entries_from setting site (reverse (installed_patches state)) else []

-- whether a site is hooked: exactly while it has an entry
abbrev pub is_hooked : Setting → State → ℕ → Bool
is_hooked setting state site = not (is_empty (entries_of setting state site))
