-- What the names and numbers of a trace mean. What can't be there names nothing.
use Rattle.std.specs.Prelude.{ℕ, ℤ, pos, negsuc, ◌==◌, ◌^◌, Bool, true, false, nat_lt, if◌then◌else◌, List, [], ◌∷◌, length, codes, bytes_eq, position, slice_get, Option, Some, None, option_map, option_and_then}
use Rattle.std.specs.List.{before_first, after_first}
use Rattle.klp_types.specs.declared.limits.TheConstants.{MAX_TASKS, MAX_FRAMES}
use Rattle.klp_types.specs.declared.version.Version.{Version}
use Rattle.klp_types.specs.declared.version.Version.TheVariants.{Original, New}
use Rattle.klp_words.specs.Words.{decimal_of, is_name}
use Rattle.klp_modules.specs.Names.{object_named}
use Rattle.klp_catalog_text.specs.Draft.{patch_names_of}
use Rattle.klp_catalog.specs.Catalog.{CatalogFunction, catalog_functions}
use Rattle.klp_core.specs.Journaled.{Journaled}
use Rattle.klp_console.specs.Asked.{site_of}

-- the number of a task, whether it is there or not
abbrev pub task_of : List ℕ → Option ℕ
task_of word = option_and_then (λ n. if nat_lt n MAX_TASKS then Some n else None) (decimal_of (2 ^ 64) word)

-- a patch of the catalog
abbrev pub patch_of : Journaled → List ℕ → Option ℕ
patch_of manager word = if is_name word then position (bytes_eq word) (patch_names_of manager.managed.catalog.patches) else None

-- an object of the catalog, loaded or not
abbrev pub object_of : Journaled → List ℕ → Option ℕ
object_of manager word = if is_name word then object_named manager.managed.catalog.names word else None

-- `PATCH:INDEX`: a new function of a patch, whether the patch has it or not
abbrev pub new_function_of : Journaled → List ℕ → Option Version
new_function_of manager word =
    option_and_then (λ patch. option_map (New patch) (decimal_of (2 ^ 16) (after_first (λ b. b == 58) word)))
    (patch_of manager (before_first (λ b. b == 58) word))

abbrev pub version_at : Journaled → List ℕ → Option ℕ → Option Version
version_at manager word (Some site) = Some (Original site)
version_at manager word None = new_function_of manager word

-- the function that a frame spells: the original one of a symbol, or a new one
abbrev pub version_of : Journaled → List ℕ → Option Version
version_of manager word = version_at manager word (site_of manager word)

-- frames from left to right, each of them known
abbrev pub versions_of : Journaled → List (List ℕ) → Option (List Version)
versions_of manager [] = Some []
versions_of manager (word ∷ words) =
    option_and_then (λ version. option_map (λ versions. version ∷ versions) (versions_of manager words)) (version_of manager word)

-- as many frames as a task has at most
abbrev pub frames_of : Journaled → List (List ℕ) → Option (List Version)
frames_of manager words = if nat_lt MAX_FRAMES (length words) then None else versions_of manager words

-- the site at which a version is called; a new function that its patch doesn't have is called nowhere
abbrev pub site_of_version : Journaled → Version → Option ℕ
site_of_version manager (Original site) = Some site
site_of_version manager (New patch function) =
    option_and_then (λ (f : CatalogFunction). f.site) (slice_get (catalog_functions manager.managed.catalog patch) function)

-- the state of a task: -1, 0 or 1
abbrev pub state_of : List ℕ → Option ℤ
state_of word =
    if bytes_eq word (codes "-1") then Some (negsuc 0)
    else if bytes_eq word (codes "0") then Some (pos 0)
    else if bytes_eq word (codes "1") then Some (pos 1)
    else None

-- what a file of a patch reads: 0 or 1
abbrev pub flag_of : List ℕ → Option Bool
flag_of word =
    if bytes_eq word (codes "0") then Some false
    else if bytes_eq word (codes "1") then Some true
    else None
