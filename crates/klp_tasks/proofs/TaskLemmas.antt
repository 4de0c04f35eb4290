-- Changes of one row, and of the states of all.
use Rattle.std.specs.Prelude.{ℤ, is_some}
use Rattle.std.proofs.Common.{length-append, add-zero, add-one, zero-add, ◌≡◌, ℕ, zero, suc, ◌+◌, ◌<◌, ◌≤◌, Bool, true, false, not, ◌&&◌, cond, map, List, [], ◌∷◌, ◌++◌, length, get_or, set, refl, sym, ap, ◌∙◌, arith, append_assoc, append-nil, Option, Some, None}
use Rattle.std.specs.Option.{option_map, option_to_list}
use Rattle.std.specs.List.{list_any}
use Rattle.std.specs.Ordering.{int_eq}
use Rattle.std.proofs.lemmas.List.{set-get_or}
use Rattle.std.proofs.lemmas.Bool.Decides.{Decides-int_eq}
use Rattle.klp_types.specs.declared.record.Record.{Record}
use Rattle.klp_types.specs.declared.record.Record.TheVariants.{TaskRow}
use Rattle.klp_types.specs.declared.task.Task.{Task}
use Rattle.klp_types.specs.Records.{RecordList, spare_of}
use Rattle.klp_types.specs.declared.version.Version.{Version}
use Rattle.klp_types.specs.declared.task.Mode.TheVariants.{Asleep}
use Rattle.klp_model.specs.Task.{Tasks, task_at, with_task, is_mode, at_target, in_state}
use Rattle.klp_model.specs.State.{State, with_tasks}
use Rattle.klp_model.specs.TaskStep.{change_task}
use Rattle.klp_model.specs.Blocked.{is_version, is_held, switched}
use Rattle.klp_tasks.specs.Members.{VersionFlags, has, IsSetOf}
use Rattle.klp_tasks.proofs.MemberLemmas.{same_any}
use Rattle.klp_tasks.specs.Changes.{Changes, record_of, put_back, undone, changed_row, changed, record_if_switched, records_switched, IsSwitchLogged}

pub set_back : (tasks : Tasks) (number : ℕ) (row : Option Task) → set (set tasks number row) number (get_or tasks number None) ≡ tasks
set_back [] number row = refl
set_back (first ∷ tasks) zero row = refl
set_back (first ∷ tasks) (suc number) row = ap (λ rest. first ∷ rest) (set_back tasks number row)

put_row : (tasks : Tasks) (number : ℕ) (row : Option Task) → put_back tasks (record_of number row) ≡ with_task tasks number row
put_row tasks number None = refl
put_row tasks number (Some task) = refl

pub row_back : (tasks : Tasks) (number : ℕ) (row : Option Task) → put_back (with_task tasks number row) (record_of number (task_at tasks number)) ≡ tasks
row_back tasks number row = put_row (with_task tasks number row) number (task_at tasks number) ∙ set_back tasks number row

-- the row of a number is another one
pub is_change : (before after : Tasks) (number : ℕ) (row : Option Task) → after ≡ with_task before number row
    → Changes before after number (record_of number (task_at before number)) (with_task before number row)
is_change before after number row is =
    record { tasks = is; was = refl; undo = ap (λ t. put_back t (record_of number (task_at before number))) is ∙ row_back before number row }

-- that of a task that is there
pub is_changed : (before after : Tasks) (number : ℕ) (f : Task → Task) (task : Task) → task_at before number ≡ Some task → after ≡ with_task before number (Some (f task))
    → Changes before after number (record_of number (task_at before number)) (changed before number f)
is_changed before after number f task there is =
    let change = is_change before after number (Some (f task)) is in
    record { tasks = is ∙ sym (ap (changed_row before number f) there); was = refl; undo = change.undo }

-- the first tasks are changed
abbrev pub partly : (Task → Task) → ℕ → Tasks → Tasks
partly f zero tasks = tasks
partly f (suc count) [] = []
partly f (suc count) (task ∷ tasks) = option_map f task ∷ partly f count tasks

pub partly_all : (f : Task → Task) (tasks : Tasks) → partly f (length tasks) tasks ≡ map (option_map f) tasks
partly_all f [] = refl
partly_all f (task ∷ tasks) = ap (λ rest. option_map f task ∷ rest) (partly_all f tasks)

changed_behind : (f : Task → Task) (first : Option Task) (tasks : Tasks) (number : ℕ) (task : Option Task)
    → changed_row (first ∷ tasks) (suc number) f task ≡ first ∷ changed_row tasks number f task
changed_behind f first tasks number None = refl
changed_behind f first tasks number (Some task) = refl

next_changed : (f : Task → Task) (count : ℕ) (tasks : Tasks) → changed (partly f count tasks) count f ≡ partly f (suc count) tasks
next_changed f zero [] = refl
next_changed f zero (None ∷ tasks) = refl
next_changed f zero (Some task ∷ tasks) = refl
next_changed f (suc count) [] = refl
next_changed f (suc count) (task ∷ tasks) =
    changed_behind f (option_map f task) (partly f count tasks) count (task_at (partly f count tasks) count)
    ∙ ap (λ rest. option_map f task ∷ rest) (next_changed f count tasks)

kept : (tasks : Tasks) (number : ℕ) (task : Task) → task_at tasks number ≡ Some task → with_task tasks number (Some task) ≡ tasks
kept tasks number task there = rw (← there) (set-get_or tasks number None)

-- a sleeper that is tried, and any other task, by a set of the blocked versions
pub tried_by : (flags : VersionFlags) (versions : List Version) → IsSetOf flags versions → (tasks : Tasks) (number : ℕ) (task : Task) (target : Bool)
    → task_at tasks number ≡ Some task
    → changed tasks number (switched versions target)
    ≡ cond (is_mode task.mode Asleep && not (list_any (has flags) task.frames)) (changed tasks number (in_state (at_target target))) tasks
tried_by flags versions same tasks number task target there =
    rw (there, same_any (has flags) (λ version. list_any (is_version version) versions) same task.frames)
    (elim (is_mode task.mode Asleep && not (is_held versions task.frames)) as
    (λ (b : Bool). with_task tasks number (Some (cond b (in_state (at_target target) task) task)) ≡ cond b (with_task tasks number (Some (in_state (at_target target) task))) tasks)
    [ true ↦ refl | false ↦ kept tasks number task there ])

-- the lists of one set hold the same tasks back
pub switched_alike : (flags : VersionFlags) (one other : List Version) → IsSetOf flags one → IsSetOf flags other → (target : Bool) (tasks : Tasks)
    → map (option_map (switched one target)) tasks ≡ map (option_map (switched other target)) tasks
switched_alike flags one other is_one is_other target [] = refl
switched_alike flags one other is_one is_other target (None ∷ tasks) = ap (λ rest. None ∷ rest) (switched_alike flags one other is_one is_other target tasks)
switched_alike flags one other is_one is_other target (Some task ∷ tasks) =
    let held = same_any (λ version. list_any (is_version version) one) (λ version. list_any (is_version version) other) (λ version. sym (is_one version) ∙ is_other version) task.frames in
    ap (λ b. Some (cond (is_mode task.mode Asleep && not b) (in_state (at_target target) task) task) ∷ map (option_map (switched one target)) tasks) held
    ∙ ap (λ rest. Some (switched other target task) ∷ rest) (switched_alike flags one other is_one is_other target tasks)

pub option_cases : {A : Type 0} (P : Option A → Type 0) → P None → ((x : A) → P (Some x)) → (o : Option A) → P o
option_cases P none some None = none
option_cases P none some (Some x) = some x

row_same : (number : ℕ) (task : Option Task) → option_to_list (record_if_switched number task task) ≡ []
row_same number None = refl
row_same number (Some task) = rw ((Decides-int_eq task.state task.state).1 refl) refl

rows_same : (number : ℕ) (tasks : Tasks) → records_switched number tasks tasks ≡ []
rows_same number [] = refl
rows_same number (task ∷ tasks) = rw (row_same number task) (rows_same (suc number) tasks)

-- one more task is changed
rows_step : (f : Task → Task) (start count : ℕ) (tasks : Tasks)
    → records_switched start tasks (partly f (suc count) tasks)
    ≡ records_switched start tasks (partly f count tasks)
    ++ option_to_list (record_if_switched (start + count) (task_at (partly f count tasks) count) (task_at (partly f (suc count) tasks) count))
rows_step f start zero [] = refl
rows_step f start zero (task ∷ tasks) = rw (rows_same (suc start) tasks, row_same start task, add-zero, append-nil) refl
rows_step f start (suc count) [] = refl
rows_step f start (suc count) (task ∷ tasks) =
    let number : start + suc count ≡ suc start + count = omega arith in
    rw (number, rows_step f (suc start) count tasks, append_assoc) refl

rows_few : (f : Task → Task) (start count : ℕ) (tasks : Tasks) → length (records_switched start tasks (partly f count tasks)) ≤ length (records_switched start tasks (map (option_map f) tasks))
rows_few f start zero tasks = rw (rows_same start tasks) (omega arith)
rows_few f start (suc count) [] = omega arith
rows_few f start (suc count) (task ∷ tasks) =
    let behind = rows_few f (suc start) count tasks in
    grind (arith, length-append, behind)

few_effective : (number : ℕ) (was now : Option Task) → length (option_to_list (record_if_switched number was now)) ≤ 1
few_effective number None now = omega arith
few_effective number (Some was) None = omega arith
few_effective number (Some was) (Some task) =
    elim (int_eq was.state task.state) as (λ (b : Bool). length (option_to_list (cond b None (Some (TaskRow number was)))) ≤ 1) [ true ↦ omega arith | false ↦ omega arith ]

-- nothing is logged of a task that stays as it was
pub not_switched : (tasks : Tasks) (number : ℕ) (log : RecordList) → IsSwitchLogged tasks tasks number log log
not_switched tasks number log =
    let same = row_same number (task_at tasks number) in
    record { records = rw (same, append-nil) refl; undo = rw same refl }

own_row : (tasks : Tasks) (number : ℕ) (task : Task) (row : Option Task) → task_at tasks number ≡ Some task → task_at (with_task tasks number row) number ≡ row
own_row [] number task row there = let no : ⊥ = cc in absurd no
own_row (first ∷ tasks) zero task row there = refl
own_row (first ∷ tasks) (suc number) task row there = own_row tasks number task row there

-- the row of one that gets another state is logged
pub is_switched : (before after : Tasks) (number : ℕ) (was : Task) (state : ℤ) (log_before log_after : RecordList) → task_at before number ≡ Some was → int_eq was.state state ≡ false
    → after ≡ with_task before number (Some (record was { state = state })) → log_after ≡ record log_before { logged = log_before.logged ++ TaskRow number was ∷ [] }
    → IsSwitchLogged before after number log_before log_after
is_switched before after number was state log_before log_after there other is logged =
    let now : Option Task = Some (record was { state = state }) in
    let effective : record_if_switched number (task_at before number) (task_at after number) ≡ Some (TaskRow number was) =
    ap (λ t. record_if_switched number (task_at before number) (task_at t number)) is
    ∙ ap (record_if_switched number (task_at before number)) (own_row before number was now there)
    ∙ ap (λ row. record_if_switched number row now) there
    ∙ ap (λ b. cond b None (Some (TaskRow number was))) other in
    record {
      records = logged ∙ ap (λ row. record log_before { logged = log_before.logged ++ option_to_list row }) (sym effective);
      undo = ap (λ row. undone after (option_to_list row)) effective ∙ ap (λ t. put_back t (TaskRow number was)) is
          ∙ ap (λ row. put_back (with_task before number now) (record_of number row)) (sym there) ∙ row_back before number now;
    }

undone-append : (tasks : Tasks) (older newer : List Record) → undone tasks (older ++ newer) ≡ undone (undone tasks newer) older
undone-append tasks [] newer = refl
undone-append tasks (row ∷ older) newer = ap (λ t. put_back t row) (undone-append tasks older newer)

-- the first tasks are changed, and the log has what they were
pub record ChangedSoFar (f : Task → Task) (count : ℕ) (before after : Tasks) (log_before log_after : RecordList) : Type 0 where
  pub tasks : after ≡ partly f count before
  pub records : log_after ≡ record log_before { logged = log_before.logged ++ records_switched 0 before after }
  pub undo : undone after (records_switched 0 before after) ≡ before

rows_next : (f : Task → Task) (count : ℕ) (before now after : Tasks) (row : Option Record) → now ≡ partly f count before → after ≡ partly f (suc count) before
    → row ≡ record_if_switched count (task_at now count) (task_at after count) → records_switched 0 before after ≡ records_switched 0 before now ++ option_to_list row
rows_next f count before now after row is is_after is_row =
    let step = rw zero-add at (rows_step f 0 count before) in
    rw (is_row, is, is_after) step

pub one_changed : (f : Task → Task) (count : ℕ) (before now after : Tasks) (log_before log_now log_after : RecordList) (row : Option Record)
    → ChangedSoFar f count before now log_before log_now
    → after ≡ changed now count f → row ≡ record_if_switched count (task_at now count) (task_at after count) → undone after (option_to_list row) ≡ now
    → log_after ≡ record log_now { logged = log_now.logged ++ option_to_list row }
    → ChangedSoFar f (count + 1) before after log_before log_after
one_changed f count before now after log_before log_now log_after row so_far is is_row back logged =
    let is_now : after ≡ partly f (suc count) before = is ∙ rw so_far.tasks (next_changed f count before) in
    let rows = rows_next f count before now after row so_far.tasks is_now is_row in
    record {
      tasks = rw add-one is_now;
      records = logged ∙ rw (so_far.records, rows) (ap (λ (l : List Record). record log_before { logged = l }) (append_assoc log_before.logged (records_switched 0 before now) (option_to_list row)));
      undo = rw (rows, undone-append after (records_switched 0 before now) (option_to_list row), back) so_far.undo;
    }

pub has_room : (f : Task → Task) (count : ℕ) (before now after : Tasks) (log_before log_now : RecordList) (row : Record)
    → ChangedSoFar f count before now log_before log_now
    → after ≡ changed now count f → Some row ≡ record_if_switched count (task_at now count) (task_at after count)
    → length (records_switched 0 before (map (option_map f) before)) ≤ spare_of log_before
    → 0 < spare_of log_now
has_room f count before now after log_before log_now row so_far is is_row room =
    let is_now : after ≡ partly f (suc count) before = is ∙ rw so_far.tasks (next_changed f count before) in
    let rows : length (records_switched 0 before after) ≡ length (records_switched 0 before now) + 1 =
    ap length (rows_next f count before now after (Some row) so_far.tasks is_now is_row) ∙ length-append (records_switched 0 before now) (row ∷ []) in
    let few : length (records_switched 0 before after) ≤ length (records_switched 0 before (map (option_map f) before)) = rw is_now (rows_few f 0 (suc count) before) in
    rw (so_far.records, length-append log_before.logged (records_switched 0 before now)) (omega arith)

-- the same, where a row may be logged
pub room_if : (f : Task → Task) (count : ℕ) (before now : Tasks) (log_before log_now : RecordList) (row : Option Record) → ChangedSoFar f count before now log_before log_now
    → row ≡ record_if_switched count (task_at now count) (task_at (changed now count f) count)
    → length (records_switched 0 before (map (option_map f) before)) ≤ spare_of log_before → is_some row ≡ true → 0 < spare_of log_now
room_if f count before now log_before log_now None so_far is_row room some = let no : ⊥ = cc in absurd no
room_if f count before now log_before log_now (Some row) so_far is_row room some = has_room f count before now (changed now count f) log_before log_now row so_far refl is_row room

-- the first so many note no more rows
few_so_far : (f : Task → Task) (count number : ℕ) (tasks : Tasks) → length (records_switched number tasks (partly f count tasks)) ≤ count
few_so_far f zero number tasks = rw (rows_same number tasks) (omega arith)
few_so_far f (suc count) number [] = omega arith
few_so_far f (suc count) number (task ∷ tasks) =
    let first = few_effective number task (option_map f task) in
    let behind = few_so_far f count (suc number) tasks in
    grind (arith, length-append, first, behind)

-- so there is room for another, where there was for all tasks
pub room_left : (f : Task → Task) (count : ℕ) (before now : Tasks) (log_before log_now : RecordList) → ChangedSoFar f count before now log_before log_now
    → count < length before → length before ≤ spare_of log_before → 0 < spare_of log_now
room_left f count before now log_before log_now so_far more room =
    let few : length (records_switched 0 before now) ≤ count = rw so_far.tasks (few_so_far f count 0 before) in
    rw (so_far.records, length-append log_before.logged (records_switched 0 before now)) (omega (arith, few, more, room))

pub all_changed : (f : Task → Task) (count : ℕ) (before now : Tasks) (log_before log_now : RecordList) → ChangedSoFar f count before now log_before log_now
    → count ≡ length before → now ≡ map (option_map f) before
all_changed f count before now log_before log_now so_far all = so_far.tasks ∙ rw all (partly_all f before)

pub started : (f : Task → Task) (tasks : Tasks) (log : RecordList) → ChangedSoFar f 0 tasks tasks log log
started f tasks log =
    let none = rows_same 0 tasks in
    record { tasks = refl; records = rw (none, append-nil) refl; undo = rw none refl }

-- a change of a row is that of the step
pub step_changes : (state : State) (number : ℕ) (f : Task → Task) (task : Option Task)
    → change_task state number f task ≡ with_tasks state (changed_row state.tasks number f task)
step_changes state number f None = refl
step_changes state number f (Some task) = refl

pub rows_are_few : (number : ℕ) (before after : Tasks) → length (records_switched number before after) ≤ length before
rows_are_few number [] after = omega arith
rows_are_few number (was ∷ before) [] = omega arith
rows_are_few number (was ∷ before) (task ∷ after) =
    let first = few_effective number was task in
    let behind = rows_are_few (suc number) before after in
    grind (arith, length-append, first, behind)
