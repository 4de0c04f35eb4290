-- Looking up the names of a console line.
use Rattle.std.specs.Prelude.{ℕ, ◌==◌, ◌&&◌, ◌||◌, Bool, nat_lt, nat_le, if◌then◌else◌, List, [], ◌∷◌, length, position, bytes_eq, Option, Some, None, is_some, ok_or, Result, Ok, Err, is_ok}
use Rattle.std.specs.List.{list_all, before_first, after_first}
use Rattle.std.specs.Str.{is_utf8}
use Rattle.klp_types.specs.declared.limits.TheConstants.{MAX_TASKS, MAX_FRAMES, MAX_INDEX}
use Rattle.klp_types.specs.declared.version.Version.{Version}
use Rattle.klp_types.specs.declared.version.Version.TheVariants.{Original, New}
use Rattle.klp_model.specs.declared.event.Refusal.TheVariants.{NoPatch, NoModule, NoSymbol, NoTask}
use Rattle.klp_modules.specs.declared.fault.SymbolFault.{SymbolFault}
use Rattle.klp_modules.specs.Names.{ObjectNames, ModuleTable, object_named, resolved}
use Rattle.klp_words.specs.Words.{Spelling, spelling_of}
use Rattle.klp_words.specs.Steps.{◌>>=◌}
use Rattle.klp_catalog_text.specs.Draft.{patch_names_of}
use Rattle.klp_catalog.specs.Catalog.{Catalog}
use Rattle.klp_console_commands.specs.declared.fault.LineFault.{LineFault}
use Rattle.klp_console_commands.specs.declared.fault.LineFault.TheVariants.{BadLine, Refused}
use Rattle.klp_console_commands.specs.Words.{is_console_name, number_to}

-- the names that a line may use: those of the patches, and those of the objects and their symbols
pub record NameResolver : Type 0 where
  pub patches : List (List ℕ)
  pub objects : List ObjectNames

-- the names of a catalog and of a table of modules
abbrev pub names_of : Catalog → ModuleTable → NameResolver
names_of catalog modules = record { patches = patch_names_of catalog.patches; objects = modules.names }

-- the patch of this name; bytes that aren't UTF-8 name nothing
abbrev pub patch_of : NameResolver → List ℕ → Result ℕ LineFault
patch_of names word = if is_utf8 word then ok_or (position (bytes_eq word) names.patches) (Refused NoPatch) else Err (Refused NoPatch)

-- the object of a name, loaded or not
abbrev pub object_of : NameResolver → List ℕ → Result ℕ LineFault
object_of names word = if is_utf8 word then ok_or (object_named names.objects word) (Refused NoModule) else Err (Refused NoModule)

-- the task of this number, whether it exists or not
abbrev pub task_of : ℕ → Result ℕ LineFault
task_of number = if nat_lt number MAX_TASKS then Ok number else Err (Refused NoTask)

-- the site that was found; every fault of a symbol is `NoSymbol`
abbrev pub symbol_found : Result ℕ SymbolFault → Result ℕ LineFault
symbol_found (Ok site) = Ok site
symbol_found (Err fault) = Err (Refused NoSymbol)

-- the site of the symbol that is spelled; its object needn't be loaded
abbrev pub site_of : NameResolver → Spelling → Result ℕ LineFault
site_of names spelling =
    ok_or (object_named names.objects spelling.object) (Refused NoModule)
    >>= λ object. symbol_found (resolved names.objects object spelling.symbol spelling.sympos)

-- the new function of a patch with this index, if the words have the form of a name and a number
abbrev pub new_function_at : NameResolver → List ℕ → List ℕ → Result Version LineFault
new_function_at names patch index =
    if is_console_name patch then (number_to MAX_INDEX index >>= λ i. patch_of names patch >>= λ p. Ok (New p i)) else Err BadLine

-- `PATCH:INDEX`: a new function of a patch, whether the patch has it or not
abbrev pub new_function_of : NameResolver → List ℕ → Result Version LineFault
new_function_of names word = new_function_at names (before_first (λ b. b == 58) word) (after_first (λ b. b == 58) word)

-- the function that a word spells, which is a symbol if it has a spelling
abbrev pub version_spelled : NameResolver → List ℕ → Option Spelling → Result Version LineFault
version_spelled names word (Some spelling) = site_of names spelling >>= λ site. Ok (Original site)
version_spelled names word None = new_function_of names word

-- the function that a frame spells: the original function of a symbol, or a new one
abbrev pub version_of : NameResolver → List ℕ → Result Version LineFault
version_of names word = version_spelled names word (spelling_of word)

-- the functions that these frames spell, from left to right, or the fault of the first that can't be looked up
abbrev pub versions_of : NameResolver → List (List ℕ) → Result (List Version) LineFault
versions_of names [] = Ok []
versions_of names (word ∷ words) = version_of names word >>= λ v. versions_of names words >>= λ vs. Ok (v ∷ vs)

-- whether a word has the form of a frame, whatever its names
abbrev pub is_frame : List ℕ → Bool
is_frame word =
    is_some (spelling_of word)
    || (is_console_name (before_first (λ b. b == 58) word) && is_ok (number_to MAX_INDEX (after_first (λ b. b == 58) word)))

-- whether the words have the form of frames, and aren't more than a task can have
abbrev pub are_frames : List (List ℕ) → Bool
are_frames words = nat_le (length words) MAX_FRAMES && list_all is_frame words
