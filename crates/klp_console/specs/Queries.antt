-- The answers to lines that show something and change nothing.
use Rattle.std.specs.Prelude.{ℕ, ◌==◌, ◌&&◌, Bool, true, false, List, [], ◌∷◌, ◌++◌, codes, length, filter, max, is_some, if◌then◌else◌, Option, Some, None, Result, Ok, Err}
use Rattle.std.specs.Fmt.{decimal, signed_decimal}
use Rattle.hex.specs.Hex.{encode_lower}
use Rattle.klp_types.specs.declared.callback.Which.TheVariants.{Pre, Post, PreUn, PostUn}
use Rattle.klp_types.specs.declared.task.Task.{Task}
use Rattle.klp_types.specs.declared.version.Entry.{Entry}
use Rattle.klp_types.specs.declared.version.Target.{Target}
use Rattle.klp_types.specs.declared.version.Version.{Version}
use Rattle.klp_types.specs.declared.version.Version.TheVariants.{Original, New}
use Rattle.klp_types.specs.Image.{Symbol}
use Rattle.klp_types.specs.Pick.{moves}
use Rattle.klp_types.specs.Setting.{PatchObject}
use Rattle.klp_types.specs.World.{ShadowValue, variable}
use Rattle.klp_model.specs.declared.event.Refusal.{Refusal}
use Rattle.klp_model.specs.declared.event.Refusal.TheVariants.{NoTask, NoModule, NotFound}
use Rattle.klp_model.specs.State.{is_installed, installed_patches}
use Rattle.klp_model.specs.Task.{task_at}
use Rattle.klp_model.specs.Bytes.{text_of}
use Rattle.klp_model.specs.Entries.{entries_of}
use Rattle.klp_model.specs.Pick.{pick}
use Rattle.klp_model.specs.Refusals.{enabled_value}
use Rattle.klp_console_io.specs.Texts.{address_text}
use Rattle.klp_words.specs.Words.{value_text}
use Rattle.klp_catalog.specs.Catalog.{Catalog, CatalogFunction, catalog_functions}
use Rattle.klp_catalog.specs.Runs.{objects_at, place_of, callback_runs}
use Rattle.klp_console_commands.specs.declared.request.Query.{Query}
use Rattle.klp_console_commands.specs.declared.request.Query.TheVariants as query
use Rattle.klp_console.specs.Refusals.{refusal_text}
use Rattle.klp_console.specs.Names.{patch_name, object_name, new_function_text}
use Rattle.klp_console.specs.Replies.{done_text}
use Rattle.klp_manager_state.specs.Managed.{setting_of}
use Rattle.klp_core.specs.Journaled.{Journaled}

-- the lines of each item, one after another
abbrev pub lines_of : {A : Type 0} → (A → List ℕ) → List A → List ℕ
lines_of text [] = []
lines_of text (item ∷ items) = text item ++ lines_of text items

-- 1 for true, 0 for false
abbrev pub switch_text : Bool → List ℕ
switch_text true = codes "1\n"
switch_text false = codes "0\n"

-- a file of a patch that has a switch; it exists while the patch is installed
abbrev pub switch_query : Journaled → ℕ → Bool → Result (List ℕ) Refusal
switch_query manager patch value = if is_installed manager.managed.state patch then Ok (switch_text value) else Err NotFound

-- the patch state of a task, if it exists
abbrev pub patch_state_query : Option Task → Result (List ℕ) Refusal
patch_state_query None = Err NoTask
patch_state_query (Some task) = Ok (signed_decimal task.state ++ codes "\n")

-- a name on its own line
abbrev pub patch_line : Catalog → ℕ → List ℕ
patch_line catalog patch = patch_name catalog patch ++ codes "\n"

-- the name of an object on its own line
abbrev pub object_line : Catalog → PatchObject → List ℕ
object_line catalog target = object_name catalog.names target.object ++ codes "\n"

-- the files of a patch, and a directory for each object that it changes, in the patch's order
abbrev pub directory_text : Catalog → ℕ → List ℕ
directory_text catalog patch = codes "enabled\nforce\ntransition\n" ++ lines_of (object_line catalog) (objects_at catalog patch)

-- a function that a patch changes, with its position; position 0 means the only symbol of its name, which is the first
abbrev pub position_text : CatalogFunction → List ℕ
position_text function = function.symbol ++ codes "," ++ decimal (max function.sympos 1) ++ codes "\n"

-- the functions that a patch changes in an object, each on its own line
abbrev pub functions_text : Catalog → ℕ → ℕ → List ℕ
functions_text catalog patch object =
    lines_of position_text (filter (λ (f : CatalogFunction). f.object == object) (catalog_functions catalog patch))

-- whether a patch changes an object
abbrev pub has_object : Catalog → ℕ → ℕ → Bool
has_object catalog patch object = is_some (place_of object (objects_at catalog patch))

-- the value of a variable, or `none`
abbrev pub variable_text : Option ShadowValue → List ℕ
variable_text None = codes "none\n"
variable_text (Some value) = codes "value " ++ value_text value ++ codes "\n"

-- a symbol's name, address and bytes
abbrev pub symbol_text : Symbol → List ℕ
symbol_text symbol = symbol.name ++ codes " " ++ address_text symbol.address ++ codes " " ++ encode_lower symbol.body ++ codes "\n"

-- the symbols of an object, if it is loaded
abbrev pub text_query : Option (List Symbol) → Result (List ℕ) Refusal
text_query None = Err NoModule
text_query (Some symbols) = Ok (lines_of symbol_text symbols)

-- an entry of a patch: its function, or a nop
abbrev pub entry_of : Catalog → ℕ → Option ℕ → List ℕ
entry_of catalog patch None = patch_name catalog patch ++ codes " nop\n"
entry_of catalog patch (Some function) = new_function_text catalog patch function

-- an entry of a function stack: `PATCH NEWNAME ADDRESS`, or `PATCH nop`
abbrev pub entry_text : Catalog → Entry → List ℕ
entry_text catalog entry = entry_of catalog entry.patch entry.func

-- the entries of a function stack, newest first
abbrev pub stack_text : Catalog → List Entry → List ℕ
stack_text catalog [] = codes "empty\n"
stack_text catalog (entry ∷ entries) = lines_of (entry_text catalog) (entry ∷ entries)

-- a version with its address
abbrev pub version_text : Catalog → Version → ℕ → List ℕ
version_text catalog (Original site) address = codes "original " ++ address_text address ++ codes "\n"
version_text catalog (New patch function) address = new_function_text catalog patch function

-- what a task runs, if its site is one of a loaded object
abbrev pub target_query : Catalog → Option Target → Result (List ℕ) Refusal
target_query catalog None = Err NoModule
target_query catalog (Some target) = Ok (version_text catalog target.version target.address)

-- what a task runs at a site; the task is checked before the site's object
abbrev pub pick_query : Journaled → ℕ → ℕ → Result (List ℕ) Refusal
pick_query manager task site =
    if is_some (task_at manager.managed.state.tasks task)
    then target_query manager.managed.catalog (pick (setting_of manager.managed) manager.managed.state task site)
    else Err NoTask

-- ` COUNT`, or ` -` if there is no such callback
abbrev pub count_text : Option ℕ → List ℕ
count_text None = codes " -"
count_text (Some count) = codes " " ++ decimal count

-- how often the four callbacks of a patch for an object ran
abbrev pub runs_text : Catalog → ℕ → ℕ → List ℕ
runs_text catalog patch object =
    codes "runs" ++ lines_of (λ which. count_text (callback_runs catalog patch object which)) (Pre ∷ Post ∷ PreUn ∷ PostUn ∷ []) ++ codes "\n"

-- the answer to a query, or why it is refused
abbrev pub query_text : Journaled → Query → Result (List ℕ) Refusal
query_text manager (query.Enabled patch) = switch_query manager patch (enabled_value manager.managed.state patch)
query_text manager (query.Transition patch) = switch_query manager patch (moves manager.managed.state.moving patch)
query_text manager (query.PatchState task) = patch_state_query (task_at manager.managed.state.tasks task)
query_text manager query.Patches = Ok (lines_of (patch_line manager.managed.catalog) (installed_patches manager.managed.state))
query_text manager (query.Patch patch) =
    if is_installed manager.managed.state patch then Ok (directory_text manager.managed.catalog patch) else Err NotFound
query_text manager (query.Object patch object) =
    if is_installed manager.managed.state patch && has_object manager.managed.catalog patch object
    then Ok (functions_text manager.managed.catalog patch object) else Err NotFound
query_text manager (query.Variable key) = Ok (variable_text (variable manager.managed.state.world key))
query_text manager (query.Text object) = text_query (text_of (setting_of manager.managed) manager.managed.state object)
query_text manager (query.Stack site) = Ok (stack_text manager.managed.catalog (entries_of (setting_of manager.managed) manager.managed.state site))
query_text manager (query.Pick task site) = pick_query manager task site
query_text manager (query.Runs patch object) =
    if has_object manager.managed.catalog patch object then Ok (runs_text manager.managed.catalog patch object) else Err NotFound
query_text manager query.Mark = Ok (decimal (length manager.groups) ++ codes "\n")

-- the text of this answer or refusal
abbrev pub shown_text : Result (List ℕ) Refusal → List ℕ
shown_text (Ok text) = text
shown_text (Err refusal) = refusal_text refusal

-- writing 0 to the `force` file of a patch does nothing, but the file must exist
abbrev pub force_nothing : Journaled → ℕ → Result (List ℕ) Refusal
force_nothing manager patch = if is_installed manager.managed.state patch then Ok done_text else Err NotFound
