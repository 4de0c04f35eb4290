-- The sites that a change of the entries is about, and the functions of a patch.
use Rattle.std.specs.Prelude.{◌≡◌, ℕ, Bool, true, false, ◌==◌, ◌||◌, List, Option, Some, None, is_some, slice_get, slice_index_or}
use Rattle.klp_types.specs.declared.version.Entry.{Entry}
use Rattle.klp_types.specs.Image.{object_of}
use Rattle.klp_types.specs.Setting.{Function, all_functions, function_for, patch_objects}
use Rattle.klp_catalog.specs.Catalog.{Catalog, patches_of}
use Rattle.klp_catalog.specs.States.{is_cumulative}
use Rattle.klp_stack.specs.Stack.{entries_at, has_entry}
use Rattle.klp_sites.specs.Table.{SiteTable}

-- the functions of a patch of the catalog, over its objects in order
abbrev pub functions_in : Catalog → ℕ → List Function
functions_in catalog patch = all_functions (patch_objects (slice_get (patches_of catalog) patch))

-- if the patch has an entry at this site, it has a function for it, or is cumulative: only such a patch has nops
abbrev pub MayHaveEntry : Catalog → ℕ → List (List Entry) → ℕ → Type 0
MayHaveEntry catalog patch stacks site =
    has_entry patch (entries_at stacks site) ≡ true
    → (is_some (function_for (functions_in catalog patch) site) || is_cumulative catalog patch) ≡ true

-- whether a change covers this object: the one that is named, or without a name any loaded object
abbrev pub is_in_scope : Option ℕ → List Bool → ℕ → Bool
is_in_scope None loaded object = slice_index_or loaded object false
is_in_scope (Some own) loaded object = object == own

-- whether a change covers this object, if there is one
abbrev pub is_object_in_scope : Option ℕ → List Bool → Option ℕ → Bool
is_object_in_scope only loaded None = false
is_object_in_scope only loaded (Some object) = is_in_scope only loaded object

-- whether a change covers the object of this site; a site that the image doesn't have is never covered
abbrev pub is_covered : SiteTable → Option ℕ → ℕ → Bool
is_covered table only site = is_object_in_scope only table.loaded (object_of table.image.objects site)
