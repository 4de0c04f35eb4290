-- Names of a catalog, as a page spells them.
use Rattle.std.specs.Prelude.{ℕ, ◌==◌, Bool, false, List, [], ◌++◌, codes, slice_get, Option, Some, None, option_map, unwrap_or}
use Rattle.std.specs.Fmt.{decimal}
use Rattle.klp_types.specs.declared.version.Version.{Version}
use Rattle.klp_types.specs.declared.version.Version.TheVariants.{Original, New}
use Rattle.klp_modules.specs.Names.{ObjectNames, Named, symbol_at_site}
use Rattle.klp_catalog_text.specs.Draft.{patch_names_of}
use Rattle.klp_catalog.specs.Catalog.{Catalog, CatalogFunction, catalog_functions}
use Rattle.klp_markup.specs.Escaped.{words_text}

-- what isn't there has no name, and stands on no page
abbrev pub patch_name : Catalog → ℕ → List ℕ
patch_name catalog patch = unwrap_or (slice_get (patch_names_of catalog.patches) patch) []

abbrev pub object_name : List ObjectNames → ℕ → List ℕ
object_name names object = unwrap_or (option_map (λ (found : ObjectNames). found.name) (slice_get names object)) []

abbrev pub function_name : Catalog → ℕ → ℕ → List ℕ
function_name catalog patch number = unwrap_or (option_map (λ (f : CatalogFunction). f.new_name) (slice_get (catalog_functions catalog patch) number)) []

-- the object in front of its symbol
unfoldable pub owner_text : List ℕ → List ℕ
owner_text object = codes ".klp.<wbr>sym.<wbr>" ++ words_text object ++ codes ".<wbr>"

-- a symbol: `.klp.sym.OBJECT.SYMBOL,POSITION`
abbrev pub symbol_text : List ObjectNames → Option Named → List ℕ
symbol_text names None = []
symbol_text names (Some symbol) =
    owner_text (object_name names symbol.object) ++ words_text symbol.name ++ codes "," ++ decimal symbol.position

-- object 0 is vmlinux
abbrev pub is_kernel : Option ℕ → Bool
is_kernel None = false
is_kernel (Some object) = object == 0

-- an original of the kernel itself, which is never unloaded
abbrev pub is_of_kernel : List ObjectNames → Version → Bool
is_of_kernel names (Original site) = is_kernel (option_map (λ (symbol : Named). symbol.object) (symbol_at_site names site))
is_of_kernel names (New patch function) = false

-- a function that a task is inside of: a symbol, or `PATCH:INDEX (NAME)` of a patch's own
abbrev pub version_text : Catalog → Version → List ℕ
version_text catalog (Original site) = symbol_text catalog.names (symbol_at_site catalog.names site)
version_text catalog (New patch function) =
    words_text (patch_name catalog patch) ++ codes ":" ++ decimal function ++ codes " (" ++ words_text (function_name catalog patch function) ++ codes ")"
