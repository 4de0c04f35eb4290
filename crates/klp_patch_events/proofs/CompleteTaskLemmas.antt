-- A transition that is tried.
use Rattle.std.proofs.Common.{◌≡◌, ℕ, ℤ, suc, zero, ◌<◌, ◌≤◌, Bool, true, false, ◌&&◌, ◌||◌, List, [], ◌∷◌, length, map, Option, Some, None, refl, sym, ap, ◌∙◌, arith, subst}
use Rattle.std.specs.Prelude.{not, ◌==◌, if◌then◌else◌, is_some, option_map, slice_get, slice_index_or, IfSome, reverse}
use Rattle.std.specs.List.{All, AllByRecursion, list_any}
use Rattle.std.proofs.lemmas.Bool.{and_parts}
use Rattle.std.proofs.lemmas.List.{length-append, length-map}
use Rattle.std.proofs.lemmas.List.Sums.{sum_by-cons}
use Rattle.klp_types.specs.declared.limits.TheConstants.{MAX_FUNCTIONS, MAX_RECORDS}
use Rattle.klp_types.specs.declared.task.Task.{Task}
use Rattle.klp_types.specs.declared.task.Mode.TheVariants.{Asleep}
use Rattle.klp_types.specs.declared.version.Entry.{Entry}
use Rattle.klp_types.specs.declared.version.Transition.{Transition}
use Rattle.klp_types.specs.declared.version.Version.{Version}
use Rattle.klp_types.specs.Setting.{Setting, functions_of, function_for, replaces, all_functions, patch_objects}
use Rattle.klp_types.specs.Entries.{entries_from}
use Rattle.klp_model.specs.Task.{Tasks, is_mode, in_state, at_target, all_in}
use Rattle.klp_model.specs.State.{installed_patches}
use Rattle.klp_model.specs.Entries.{is_site_loaded, entries_of}
use Rattle.klp_model.specs.Blocked.{switched, tried, blocked, is_held}
use Rattle.klp_model.specs.Allowed.{AreRight, is_right_state, is_right_task, are_right_frames}
use Rattle.klp_modules.specs.Names.{ObjectNames}
use Rattle.klp_catalog_text.specs.Plan.{PlanTarget, PlanPatch}
use Rattle.klp_catalog_text.specs.PlanParts.{function_count}
use Rattle.klp_catalog.specs.Catalog.{Catalog, patch_object, setting_patch, setting_function, functions_of_target, resolved_function}
use Rattle.klp_catalog.specs.Limits.{IsWithin}
use Rattle.klp_stack.specs.Stack.{entries_at, has_entry}
use Rattle.klp_patch.specs.Blocked.{AreFunctions}
use Rattle.klp_patch.specs.Covered.{functions_in}
use Rattle.klp_manager_state.specs.declared.state.ManagerState.{ManagerState}
use Rattle.klp_patch_events.specs.Complete.{AreOwn}
use Rattle.klp_manager_state.specs.Invariant.{Invariant}
use Rattle.klp_manager_state.specs.Managed.{setting_in, state_in}

-- a patch has entries only where it has a function, or replaces
abbrev pub OwnLaw : Type 0
OwnLaw = (setting : Setting) (site patch : ℕ) (patches : List ℕ) → list_any (λ (e : Entry). e.patch == patch) (entries_from setting site patches) ≡ true
    → (is_some (function_for (functions_of setting patch) site) || replaces setting patch) ≡ true

-- entries name functions that their patches have
abbrev pub FunctionLaw : Type 0
FunctionLaw = (setting : Setting) (site : ℕ) (patches : List ℕ) → All (λ (e : Entry). IfSome e.func (λ f. f < length (functions_of setting e.patch))) (entries_from setting site patches)

-- the stacks have the entries of the state
abbrev pub AreEntries : ManagerState → Catalog → Type 0
AreEntries parts catalog = (site : ℕ) → entries_at parts.sites.stacks site ≡ entries_of (setting_in parts catalog) (state_in parts catalog) site

own_at : OwnLaw → (setting : Setting) (site patch : ℕ) (patches : List ℕ) (loaded : Bool) (entries : List Entry) → entries ≡ (if loaded then entries_from setting site patches else [])
    → has_entry patch entries ≡ true → (is_some (function_for (functions_of setting patch) site) || replaces setting patch) ≡ true
own_at law setting site patch patches true entries are has = law setting site patch patches (sym (ap (has_entry patch) are) ∙ has)
own_at law setting site patch patches false entries are has =
    let none : false ≡ true = sym (ap (has_entry patch) are) ∙ has in let no : ⊥ = cc in absurd no

pub own_in : OwnLaw → (parts : ManagerState) (catalog : Catalog) → AreEntries parts catalog → AreOwn catalog parts.sites.stacks
own_in law parts catalog entries = λ patch site has.
    own_at law (setting_in parts catalog) site patch (reverse (installed_patches (state_in parts catalog))) (is_site_loaded (setting_in parts catalog) (state_in parts catalog) site)
    (entries_at parts.sites.stacks site) (entries site) has

-- no patch has more functions than the limit

count_all : (names : List ObjectNames) (targets : List PlanTarget) → length (all_functions (map (patch_object names) targets)) ≡ function_count targets
count_all names [] = refl
count_all names (target ∷ targets) =
    let own = map setting_function (functions_of_target names target) in
    let rest = count_all names targets in
    let both = length-append own (all_functions (map (patch_object names) targets)) in
    let here = length-map (functions_of_target names target) setting_function in
    let there = length-map target.functions (resolved_function names target.object) in
    let sum = sum_by-cons (λ (t : PlanTarget). length t.functions) target targets in
    omega (arith, rest, both, here, there, sum)

few_at : (names : List ObjectNames) (patches : List PlanPatch) (patch : ℕ) → AllByRecursion IsWithin patches
    → length (all_functions (patch_objects (slice_get (map (setting_patch names) patches) patch))) ≤ MAX_FUNCTIONS
few_at names [] patch within = omega arith
few_at names (p ∷ patches) zero within = let count = count_all names p.targets in let few = within.0.few_functions in omega (arith, count, few)
few_at names (p ∷ patches) (suc patch) within = few_at names patches patch within.1

pub few_in : (catalog : Catalog) (patch : ℕ) → AllByRecursion IsWithin catalog.patches → length (functions_in catalog patch) ≤ MAX_FUNCTIONS
few_in catalog patch within = few_at catalog.names catalog.patches patch within

below_limit : (func : Option ℕ) (count : ℕ) → count ≤ MAX_FUNCTIONS → IfSome func (λ f. f < count) → IfSome func (λ f. f < MAX_FUNCTIONS)
below_limit None count few is = is
below_limit (Some f) count few is = omega (arith, few, is)

functions_at : FunctionLaw → (catalog : Catalog) (setting : Setting) → ((patch : ℕ) → length (functions_of setting patch) ≤ MAX_FUNCTIONS) → (site : ℕ) (patches : List ℕ) (loaded : Bool)
    → AreFunctions (if loaded then entries_from setting site patches else [])
functions_at law catalog setting few site patches true = λ k d below.
    let entry = slice_index_or (entries_from setting site patches) k d in
    below_limit entry.func (length (functions_of setting entry.patch)) (few entry.patch) (law setting site patches k d below)
functions_at law catalog setting few site patches false = λ k d below. absurd (omega (arith, below))

pub functions_in_stacks : FunctionLaw → (parts : ManagerState) (catalog : Catalog) → AllByRecursion IsWithin catalog.patches → AreEntries parts catalog
    → (site : ℕ) → AreFunctions (entries_at parts.sites.stacks site)
functions_in_stacks law parts catalog within entries site =
    subst AreFunctions (sym (entries site))
    (functions_at law catalog (setting_in parts catalog) (λ patch. few_in catalog patch within) site (reverse (installed_patches (state_in parts catalog)))
    (is_site_loaded (setting_in parts catalog) (state_in parts catalog) site))

-- tasks that are tried stay right

target_right : (target : Bool) (move : Transition) (b : Bool) → b ≡ true → (is_right_state (Some move) (at_target target) && b) ≡ true
target_right true move b is = is
target_right false move b is = is

right_one : (setting : Setting) (move : Transition) (versions : List Version) (row : Option Task) → is_right_task setting (Some move) row ≡ true
    → is_right_task setting (Some move) (option_map (switched versions move.target) row) ≡ true
right_one setting move versions None right = refl
right_one setting move versions (Some task) right =
    elim (is_mode task.mode Asleep && not (is_held versions task.frames)) as (λ b. is_right_task setting (Some move) (Some (if b then in_state (at_target move.target) task else task)) ≡ true) [
      | true ↦ target_right move.target move (are_right_frames setting task) (and_parts (is_right_state (Some move) task.state) (are_right_frames setting task) right).1
      | false ↦ right
    ]

right_each : (setting : Setting) (move : Transition) (versions : List Version) (tasks : Tasks) → AreRight setting (Some move) tasks
    → AreRight setting (Some move) (map (option_map (switched versions move.target)) tasks)
right_each setting move versions [] right = tt
right_each setting move versions (row ∷ tasks) right = (right_one setting move versions row right.0, right_each setting move versions tasks right.1)

-- and what a manager keeps
pub kept_tried : (before after : ManagerState) (catalog : Catalog) (move : Transition) → Invariant before catalog → before.moving ≡ Some move
    → after ≡ record before { tasks = tried (setting_in before catalog) (state_in before catalog) move; blocked = after.blocked; log = after.log } → after.log.room ≡ MAX_RECORDS
    → Invariant after catalog
kept_tried before after catalog move holds moving is room =
    let setting = setting_in before catalog in
    let tasks = tried setting (state_in before catalog) move in
    let next : ManagerState = record before { tasks = tasks; blocked = after.blocked; log = after.log } in
    let right = subst (λ m. AreRight setting m tasks) (sym moving)
    (right_each setting move (blocked setting (state_in before catalog) move) before.tasks (subst (λ m. AreRight setting m before.tasks) moving holds.allowed.tasks)) in
    let kept : Invariant next catalog = record {
      allowed = record {
        kernel = holds.allowed.kernel;
        known = holds.allowed.known;
        distinct = holds.allowed.distinct;
        moving = holds.allowed.moving;
        stacked = holds.allowed.stacked;
        symbols = holds.allowed.symbols;
        tasks = right;
        room = holds.allowed.room;
        objects = holds.allowed.objects;
        rows = length-map before.tasks (option_map (switched (blocked setting (state_in before catalog) move) move.target)) ∙ holds.allowed.rows;
        flags = holds.allowed.flags;
      };
      stated = holds.stated;
      limits = holds.limits;
      modules_are = holds.modules_are;
      catalog_names = holds.catalog_names;
      entries = holds.entries;
      room = room;
    } in
    subst (λ p. Invariant p catalog) (sym is) kept

-- once every task is at rest it doesn't matter which were tried

rest_one : (state : ℤ) (versions : List Version) (target : Bool) (row : Option Task) → option_map (in_state state) (option_map (switched versions target) row) ≡ option_map (in_state state) row
rest_one state versions target None = refl
rest_one state versions target (Some task) =
    elim (is_mode task.mode Asleep && not (is_held versions task.frames)) as (λ b. Some (in_state state (if b then in_state (at_target target) task else task)) ≡ Some (in_state state task)) [
      | true ↦ refl
      | false ↦ refl
    ]

pub rest_each : (state : ℤ) (versions : List Version) (target : Bool) (tasks : Tasks) → all_in state (map (option_map (switched versions target)) tasks) ≡ all_in state tasks
rest_each state versions target [] = refl
rest_each state versions target (row ∷ tasks) =
    ap (λ r. r ∷ all_in state (map (option_map (switched versions target)) tasks)) (rest_one state versions target row)
    ∙ ap (λ rs. option_map (in_state state) row ∷ rs) (rest_each state versions target tasks)
