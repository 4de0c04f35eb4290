-- Records put back give each row what it was, whatever other rows they are among.
use Rattle.std.proofs.Common.{◌≡◌, ℕ, ◌<◌, length, Bool, suc, cond, true, false, List, [], ◌∷◌, ◌++◌, Option, Some, None, refl, sym, ap, subst, ◌∙◌}
use Rattle.std.specs.Prelude.{slice_set, slice_index_or, is_none}
use Rattle.std.proofs.lemmas.Bool.{and_parts, and_from}
use Rattle.std.proofs.lemmas.List.{set-set, set-get_or, length-set}
use Rattle.std.specs.List.{All}
use Rattle.std.specs.Option.{option_to_list}
use Rattle.std.specs.Ordering.{int_eq}
use Rattle.klp_types.specs.declared.task.Task.{Task}
use Rattle.std.proofs.lemmas.List.Elements.{All-nil, All-cons, All-append, All-head, All-tail}
use Rattle.klp_types.specs.declared.record.Record.{Record}
use Rattle.klp_types.specs.declared.record.Record.TheVariants.{ShadowVariable, NoShadowVariable, StateValue, StateRow, InstalledPatch, LoadedFlag, StackEntry, HookFlag, TaskRow, NoTaskRow, Moving, NothingMoving, PinnedFlag}
use Rattle.klp_types.specs.declared.version.Transition.{Transition}
use Rattle.klp_types.specs.Records.{RecordList}
use Rattle.klp_types.specs.World.{World}
use Rattle.klp_model.specs.Task.{Tasks}
use Rattle.klp_world.specs.Undo as of_world
use Rattle.klp_tasks.specs.Changes as of_tasks
use Rattle.klp_sites.specs.Table.{SiteTable}
use Rattle.klp_sites.specs.Changes.{noting}
use Rattle.klp_sites.specs.Undo as of_sites
use Rattle.klp_sites.specs.Undo.{is_of_sites}
use Rattle.klp_world.specs.Undo.{is_of_world}
use Rattle.klp_sites.proofs.ExactLemmas.{telling, effective_due as sites_due}
use Rattle.klp_manager_state.specs.Rows.{Rows, Before, before_logged, is_of_tasks, row_of_moving, put_back, undone, is_due, are_due, have_effects, undone_if_effective, each_has_effect, WorldGoesBack, SitesGoBack, TasksGoBack, MovingGoesBack, PinsGoBack}
use Rattle.klp_tasks.proofs.EffectLemmas.{switched_effective}
use Rattle.klp_manager_state.proofs.EffectLemmas.{undone-append, sites_of, telling as rows_telling, effective_both, effective_by, world_effective, tasks_effective, sites_effective, loaded_effective, moving_effective, pinned_effective}

-- where all records are due, the newest is, and once it is put back, the older ones are
pub due-parts : (rows : Rows) (older : List Record) (row : Record) → are_due rows (older ++ row ∷ []) ≡ true → (is_due rows row ≡ true) × (are_due (put_back rows row) older ≡ true)
due-parts rows [] row due = ((and_parts (is_due rows row) true due).0, refl)
due-parts rows (first ∷ older) row due =
    let parts = and_parts (is_due (undone rows (older ++ row ∷ [])) first) (are_due rows (older ++ row ∷ [])) due in
    let rest = due-parts rows older row parts.1 in
    (rest.0, and_from (is_due (undone (put_back rows row) older) first) (are_due (put_back rows row) older) (ap (λ r. is_due r first) (sym (undone-append rows older (row ∷ []))) ∙ parts.0) rest.1)

-- the sites alone tell what can be put back
due_at_sites : (rows : Rows) (records : List Record) → of_sites.are_due rows.sites records ≡ true → are_due rows records ≡ true
due_at_sites rows [] due = refl
due_at_sites rows (row ∷ newer) due =
    let parts = and_parts (of_sites.is_due (of_sites.undone rows.sites newer) row) (of_sites.are_due rows.sites newer) due in
    and_from (is_due (undone rows newer) row) (are_due rows newer) (ap (λ t. of_sites.is_due t row) (sites_of rows newer) ∙ parts.0) (due_at_sites rows newer parts.1)

-- a row of no site tells nothing of them
abbrev pub OfOthers : Record → Type 0
OfOthers row = (table : SiteTable) → (of_sites.is_exact table row None ≡ true) × (of_sites.hook_of row ≡ None)

others_effective : (table : SiteTable) (is : Record → Bool) (each : (row : Record) → is row ≡ true → OfOthers row) (records : List Record) → All (λ row. is row ≡ true) records
    → (of_sites.are_exact table records ≡ true) × (of_sites.first_hook records ≡ None)
others_effective table is each [] all = (refl, refl)
others_effective table is each (row ∷ newer) all =
    let rest = others_effective table is each newer (All-tail (λ row. is row ≡ true) row newer all) in
    let own = each row (All-head (λ row. is row ≡ true) row newer all) (of_sites.undone table newer) in
    (and_from (of_sites.is_exact (of_sites.undone table newer) row (of_sites.first_hook newer)) (of_sites.are_exact table newer) (ap (of_sites.is_exact (of_sites.undone table newer) row) rest.1 ∙ own.0) rest.0, own.1)

others_tell : (table : SiteTable) (is : Record → Bool) (each : (row : Record) → is row ≡ true → OfOthers row) (records : List Record) → All (λ row. is row ≡ true) records
    → of_sites.have_effects table records ≡ true
others_tell table is each records all =
    let effective = others_effective table is each records all in
    telling table records ∙ and_from (of_sites.are_exact table records) (is_none (of_sites.first_hook records)) effective.0 (ap is_none effective.1)

world_of_others : (row : Record) → is_of_world row ≡ true → OfOthers row
world_of_others (StackEntry site patch was) is = let no : ⊥ = cc in absurd no
world_of_others (HookFlag site was) is = let no : ⊥ = cc in absurd no
world_of_others (LoadedFlag object was) is = let no : ⊥ = cc in absurd no
world_of_others other is = λ table. (refl, refl)

task_of_others : (row : Record) → is_of_tasks row ≡ true → OfOthers row
task_of_others (StackEntry site patch was) is = let no : ⊥ = cc in absurd no
task_of_others (HookFlag site was) is = let no : ⊥ = cc in absurd no
task_of_others (LoadedFlag object was) is = let no : ⊥ = cc in absurd no
task_of_others other is = λ table. (refl, refl)

-- a row of the world is none of the others
row_of_world : (rows : Rows) (row : Record) → is_of_world row ≡ true → put_back rows row ≡ record rows { world = of_world.put_back rows.world row }
row_of_world rows (ShadowVariable key was) is = refl
row_of_world rows (NoShadowVariable key) is = refl
row_of_world rows (StateValue patch id was) is = refl
row_of_world rows (StateRow patch id was) is = refl
row_of_world rows (InstalledPatch patch place) is = refl
row_of_world rows other is = let no : ⊥ = cc in absurd no

-- a row of a site is none of the others
row_of_site : (rows : Rows) (row : Record) → is_of_sites row ≡ true → put_back rows row ≡ record rows { sites = of_sites.put_back rows.sites row }
row_of_site rows (StackEntry site patch was) is = refl
row_of_site rows (HookFlag site was) is = refl
row_of_site rows other is = let no : ⊥ = cc in absurd no

undone_world : (rows : Rows) (records : List Record) → All (λ row. is_of_world row ≡ true) records → undone rows records ≡ record rows { world = of_world.undone rows.world records }
undone_world rows [] all = refl
undone_world rows (row ∷ newer) all =
    let first = All-head (λ row. is_of_world row ≡ true) row newer all in
    let rest = undone_world rows newer (All-tail (λ row. is_of_world row ≡ true) row newer all) in
    ap (λ r. put_back r row) rest ∙ row_of_world (record rows { world = of_world.undone rows.world newer }) row first

undone_sites : (rows : Rows) (records : List Record) → All (λ row. is_of_sites row ≡ true) records → undone rows records ≡ record rows { sites = of_sites.undone rows.sites records }
undone_sites rows [] all = refl
undone_sites rows (row ∷ newer) all =
    let first = All-head (λ row. is_of_sites row ≡ true) row newer all in
    let rest = undone_sites rows newer (All-tail (λ row. is_of_sites row ≡ true) row newer all) in
    ap (λ r. put_back r row) rest ∙ row_of_site (record rows { sites = of_sites.undone rows.sites newer }) row first

-- a row of a task is none of the others
row_of_task : (rows : Rows) (row : Record) → is_of_tasks row ≡ true → put_back rows row ≡ record rows { tasks = of_tasks.put_back rows.tasks row }
row_of_task rows (TaskRow task was) is = refl
row_of_task rows (NoTaskRow task) is = refl
row_of_task rows other is = let no : ⊥ = cc in absurd no

undone_tasks : (rows : Rows) (records : List Record) → All (λ row. is_of_tasks row ≡ true) records → undone rows records ≡ record rows { tasks = of_tasks.undone rows.tasks records }
undone_tasks rows [] all = refl
undone_tasks rows (row ∷ newer) all =
    let first = All-head (λ row. is_of_tasks row ≡ true) row newer all in
    let rest = undone_tasks rows newer (All-tail (λ row. is_of_tasks row ≡ true) row newer all) in
    ap (λ r. put_back r row) rest ∙ row_of_task (record rows { tasks = of_tasks.undone rows.tasks newer }) row first

-- what a change of one task tells is a row of a task
pub of_task : (number : ℕ) (was : Option Task) → is_of_tasks (of_tasks.record_of number was) ≡ true
of_task number None = refl
of_task number (Some was) = refl

switched_of_task : (number : ℕ) (was task : Option Task) → All (λ row. is_of_tasks row ≡ true) (option_to_list (of_tasks.record_if_switched number was task))
switched_of_task number None task = All-nil (λ row. is_of_tasks row ≡ true)
switched_of_task number (Some was) None = All-nil (λ row. is_of_tasks row ≡ true)
switched_of_task number (Some was) (Some task) = elim (int_eq was.state task.state) as (λ same. All (λ row. is_of_tasks row ≡ true) (option_to_list (cond same None (Some (TaskRow number was))))) [
  | true ↦ All-nil (λ row. is_of_tasks row ≡ true)
  | false ↦ All-cons (λ row. is_of_tasks row ≡ true) (TaskRow number was) [] refl (All-nil (λ row. is_of_tasks row ≡ true))
]

-- so are those of all tasks that are switched
pub switched_of_tasks : (number : ℕ) (before after : Tasks) → All (λ row. is_of_tasks row ≡ true) (of_tasks.records_switched number before after)
switched_of_tasks number (was ∷ before) (task ∷ after) =
    All-append (λ row. is_of_tasks row ≡ true) (option_to_list (of_tasks.record_if_switched number was task)) (of_tasks.records_switched (suc number) before after)
    (switched_of_task number was task) (switched_of_tasks (suc number) before after)
switched_of_tasks number [] after = All-nil (λ row. is_of_tasks row ≡ true)
switched_of_tasks number (was ∷ before) [] = All-nil (λ row. is_of_tasks row ≡ true)

-- what there was, behind the records of earlier events
abbrev behind : List Record → Option Rows → Before
behind older found = record { rows = found; older = older }

-- the newest are put back first
logged_behind : (rows : Rows) (l0 l1 : RecordList) (records : List Record) → l1 ≡ noting l0 records → have_effects rows records ≡ true
    → before_logged rows l1 ≡ before_logged (undone rows records) l0
logged_behind rows l0 l1 records logged effective =
    ap (before_logged rows) logged
    ∙ ap (λ b. behind l0.older (cond b (Some (undone rows (l0.logged ++ records))) None)) (effective_both rows l0.logged records effective)
    ∙ ap (λ r. behind l0.older (cond (have_effects (undone rows records) l0.logged) (Some r) None)) (undone-append rows l0.logged records)

-- rows of the world give the world back
pub world_back : (before after : World) (l0 l1 : RecordList) (records : List Record) → All (λ row. is_of_world row ≡ true) records → l1 ≡ noting l0 records
    → of_world.undone after records ≡ before → of_world.HaveEffects after records → WorldGoesBack before after l0 l1
world_back before after l0 l1 records all logged undo effective rows =
    let now : Rows = record rows { world = after } in
    logged_behind now l0 l1 records logged (effective_by now records (others_tell now.sites is_of_world world_of_others records all) (world_effective now records effective))
    ∙ ap (λ r. before_logged r l0) (undone_world now records all ∙ ap (λ (w : World). record rows { world = w }) undo)

-- rows of sites give the sites back
pub sites_back : (before after : SiteTable) (l0 l1 : RecordList) (records : List Record) → All (λ row. is_of_sites row ≡ true) records → l1 ≡ noting l0 records
    → of_sites.undone after records ≡ before → of_sites.have_effects after records ≡ true → SitesGoBack before after l0 l1
sites_back before after l0 l1 records all logged undo effective rows =
    let now : Rows = record rows { sites = after } in
    logged_behind now l0 l1 records logged (sites_effective now records all effective)
    ∙ ap (λ r. before_logged r l0) (undone_sites now records all ∙ ap (λ (t : SiteTable). record rows { sites = t }) undo)

-- rows of tasks give the tasks back
pub tasks_back : (before after : Tasks) (l0 l1 : RecordList) (records : List Record) → All (λ row. is_of_tasks row ≡ true) records → l1 ≡ noting l0 records
    → of_tasks.undone after records ≡ before → of_tasks.HaveEffects after records → TasksGoBack before after l0 l1
tasks_back before after l0 l1 records all logged undo effective rows =
    let now : Rows = record rows { tasks = after } in
    logged_behind now l0 l1 records logged (effective_by now records (others_tell now.sites is_of_tasks task_of_others records all) (tasks_effective now records effective))
    ∙ ap (λ r. before_logged r l0) (undone_tasks now records all ∙ ap (λ (t : Tasks). record rows { tasks = t }) undo)

-- tasks that are brought to another state
pub switched_back : (before after to : Tasks) (l0 l1 : RecordList) → after ≡ to → l1 ≡ noting l0 (of_tasks.records_switched 0 before to)
    → of_tasks.undone after (of_tasks.records_switched 0 before to) ≡ before → TasksGoBack before after l0 l1
switched_back before after to l0 l1 is logged undo =
    tasks_back before after l0 l1 (of_tasks.records_switched 0 before to) (switched_of_tasks 0 before to) logged undo
    (subst (λ t. of_tasks.HaveEffects t (of_tasks.records_switched 0 before to)) (sym is) (switched_effective before to))

-- what moved is logged
pub moving_back : (before after : Option Transition) (l0 l1 : RecordList) → l1 ≡ noting l0 (row_of_moving before ∷ []) → (before ≡ after → ⊥) → MovingGoesBack before after l0 l1
moving_back before after l0 l1 logged differ rows =
    let now : Rows = record rows { moving = after } in
    logged_behind now l0 l1 (row_of_moving before ∷ []) logged (moving_effective now before differ) ∙ ap (λ r. before_logged r l0) (back before)
  where
    back : (was : Option Transition) → put_back (record rows { moving = after }) (row_of_moving was) ≡ record rows { moving = was }
    back None = refl
    back (Some was) = refl

-- whether an object was loaded is logged
pub loaded_back : (before after : SiteTable) (object : ℕ) (was : Bool) (l0 l1 : RecordList) → l1 ≡ noting l0 (LoadedFlag object was ∷ [])
    → of_sites.put_back after (LoadedFlag object was) ≡ before → was ≡ slice_index_or before.loaded object false → of_sites.have_effects after (LoadedFlag object was ∷ []) ≡ true
    → SitesGoBack before after l0 l1
loaded_back before after object was l0 l1 logged undo is effective rows =
    let now : Rows = record rows { sites = after } in
    logged_behind now l0 l1 (LoadedFlag object was ∷ []) logged (loaded_effective now before object was undo is effective) ∙ ap (λ (t : SiteTable). before_logged (record rows { sites = t }) l0) undo

-- a patch that wasn't pinned is pinned
pub pinned_now : (flags after : List Bool) (patch : ℕ) (l0 l1 : RecordList) → patch < length flags → after ≡ slice_set flags patch true → l1 ≡ noting l0 (PinnedFlag patch false ∷ [])
    → slice_index_or flags patch false ≡ false → PinsGoBack flags after l0 l1
pinned_now flags after patch l0 l1 there is logged free rows =
    let now : Rows = record rows { pinned = after } in
    let back : slice_set after patch false ≡ flags =
    ap (λ fs. slice_set fs patch false) is ∙ set-set flags patch true false ∙ ap (slice_set flags patch) (sym free) ∙ set-get_or flags patch false in
    logged_behind now l0 l1 (PinnedFlag patch false ∷ []) logged (pinned_effective now flags patch there is) ∙ ap (λ (p : List Bool). before_logged (record rows { pinned = p }) l0) back

-- rows that all records give are those that they give put back, and the records tell what changed
pub given_back : (rows before : Rows) (records : List Record) → undone_if_effective rows records ≡ Some before → (undone rows records ≡ before) × (have_effects rows records ≡ true)
given_back rows before records given =
    elim (have_effects rows records) as (λ b. have_effects rows records ≡ b → cond b (Some (undone rows records)) None ≡ Some before
    → (undone rows records ≡ before) × (have_effects rows records ≡ true)) [
      | true ↦ λ effective given. (cc, effective)
      | false ↦ λ other given. let no : ⊥ = cc in absurd no
    ] refl given

-- records that tell what changed can be put back
pub effective_back : (rows : Rows) (records : List Record) → have_effects rows records ≡ true → are_due rows records ≡ true
effective_back rows records effective =
    due_at_sites rows records (sites_due rows.sites records (and_parts (of_sites.have_effects rows.sites records) (each_has_effect rows records) (sym (rows_telling rows records) ∙ effective)).0)

flag_put : (table : SiteTable) (object : ℕ) (was : Bool) (within : Bool) → length table.loaded ≡ length table.image.objects
    → length (cond within (record table { loaded = slice_set table.loaded object was }) table).loaded ≡ length (cond within (record table { loaded = slice_set table.loaded object was }) table).image.objects
flag_put table object was true each = length-set table.loaded object was ∙ each
flag_put table object was false each = each

-- each object still has its flag
pub flags_put_back : (rows : Rows) (row : Record) → length rows.sites.loaded ≡ length rows.sites.image.objects
    → length (put_back rows row).sites.loaded ≡ length (put_back rows row).sites.image.objects
flags_put_back rows (LoadedFlag object was) each = flag_put rows.sites object was _ each
flags_put_back rows (StackEntry site patch was) each = each
flags_put_back rows (HookFlag site was) each = each
flags_put_back rows (ShadowVariable key was) each = each
flags_put_back rows (NoShadowVariable key) each = each
flags_put_back rows (StateValue patch id was) each = each
flags_put_back rows (StateRow patch id was) each = each
flags_put_back rows (InstalledPatch patch place) each = each
flags_put_back rows (TaskRow task was) each = each
flags_put_back rows (NoTaskRow task) each = each
flags_put_back rows (Moving was) each = each
flags_put_back rows NothingMoving each = each
flags_put_back rows (PinnedFlag patch was) each = each
