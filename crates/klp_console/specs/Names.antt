-- The names in answers.
use Rattle.std.specs.Prelude.{ℕ, List, [], ◌++◌, codes, slice_get, Option, Some, None, option_map, unwrap_or}
use Rattle.klp_modules.specs.Names.{ObjectNames}
use Rattle.klp_console_io.specs.Texts.{address_text}
use Rattle.klp_catalog_text.specs.Draft.{patch_names_of}
use Rattle.klp_catalog.specs.Catalog.{Catalog, CatalogFunction, catalog_functions}

-- the name of a patch of the catalog; empty for a patch that doesn't exist, which no answer has
abbrev pub patch_name : Catalog → ℕ → List ℕ
patch_name catalog patch = unwrap_or (slice_get (patch_names_of catalog.patches) patch) []

-- the name of an object; empty for an object that doesn't exist
abbrev pub object_name : List ObjectNames → ℕ → List ℕ
object_name names object = unwrap_or (option_map (λ (found : ObjectNames). found.name) (slice_get names object)) []

-- the line of a new function of the patch with this name
abbrev pub function_text : List ℕ → Option CatalogFunction → List ℕ
function_text patch None = []
function_text patch (Some function) = patch ++ codes " " ++ function.new_name ++ codes " " ++ address_text function.address ++ codes "\n"

-- a new function of a patch: `PATCH NEWNAME ADDRESS`
abbrev pub new_function_text : Catalog → ℕ → ℕ → List ℕ
new_function_text catalog patch number = function_text (patch_name catalog patch) (slice_get (catalog_functions catalog patch) number)
