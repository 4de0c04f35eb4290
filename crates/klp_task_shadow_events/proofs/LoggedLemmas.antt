-- What events note gives the rows before them.
use Rattle.std.proofs.Common.{◌≡◌, ℕ, zero, suc, ◌<◌, true, false, List, [], ◌∷◌, length, Option, Some, None, Ok, refl, sym, ap, ◌∙◌}
use Rattle.std.specs.Prelude.{is_some}
use Rattle.std.specs.List.{All}
use Rattle.std.proofs.lemmas.List.{get_or-set_same}
use Rattle.std.proofs.lemmas.List.Elements.{All-cons, All-nil}
use Rattle.klp_types.specs.declared.task.Mode.{Mode}
use Rattle.klp_types.specs.declared.task.Mode.TheVariants.{Kernel}
use Rattle.klp_types.specs.declared.task.Task.{Task}
use Rattle.klp_types.specs.declared.version.Transition.{Transition}
use Rattle.klp_types.specs.declared.record.Record.{Record}
use Rattle.klp_types.specs.Records.{RecordList}
use Rattle.klp_types.specs.World.{World}
use Rattle.klp_model.specs.declared.event.Reply.{Reply}
use Rattle.klp_model.specs.Task.{Tasks, task_at, with_task, is_mode, is_in}
use Rattle.klp_model.specs.TaskStep.{exited}
use Rattle.klp_tasks.specs.Changes as of_tasks
use Rattle.klp_world.specs.Changes.{Changes}
use Rattle.klp_world.specs.StoredEvent.{noting}
use Rattle.klp_world.specs.Undo as of_world
use Rattle.klp_world.specs.Undo.{is_of_world}
use Rattle.klp_manager_state.specs.declared.state.ManagerState.{ManagerState}
use Rattle.klp_manager_state.specs.Rows.{rows_in, is_of_tasks, IsLogged, WorldGoesBack, TasksGoBack}
use Rattle.klp_manager_state.proofs.RowLemmas.{of_task}

-- a list without what is logged
abbrev pub emptied : RecordList → RecordList
emptied log = record log { logged = [] }

-- a change of the world that is logged alone
pub world_logged : ((before after : World) (log_before log_after : RecordList) (rows : List Record)
    → All (λ row. is_of_world row ≡ true) rows → log_after ≡ noting log_before rows → of_world.undone after rows ≡ before → of_world.HaveEffects after rows
    → WorldGoesBack before after log_before log_after)
    → (before : ManagerState) (world to : World) (empty log : RecordList) (rows : List Record) (reply : Reply) → All (λ row. is_of_world row ≡ true) rows
    → empty ≡ emptied before.log → Changes before.world world empty log to rows
    → IsLogged before (record before { world = world; log = log }) (Ok reply)
world_logged law before world to empty log rows reply all cleared changes = record {
  accepted = law before.world world (emptied before.log) log rows all (changes.records ∙ ap (λ (l : RecordList). noting l rows) cleared) changes.undo changes.effective (rows_in before);
  refused = tt;
}

-- the row of a number is another one
abbrev pub IsOther : Tasks → Tasks → ℕ → Type 0
IsOther before after number = task_at before number ≡ task_at after number → ⊥

-- a task that comes
pub came : (before tasks to : Tasks) (number : ℕ) (row : Record) (task : Task) → of_tasks.Changes before tasks number row to → to ≡ with_task before number (Some task)
    → number < length before → is_some (task_at before number) ≡ false → IsOther before tasks number
came before tasks to number row task changes is within free same =
    let there : task_at before number ≡ Some task =
    same ∙ ap (λ t. task_at t number) (changes.tasks ∙ is) ∙ get_or-set_same before number (Some task) None within in
    let no : ⊥ = cc (sym free ∙ ap is_some there) in
    no

own_row : (tasks : Tasks) (number : ℕ) (row : Option Task) → is_some (task_at tasks number) ≡ true → task_at (with_task tasks number row) number ≡ row
own_row [] number row there = let no : ⊥ = cc in absurd no
own_row (first ∷ tasks) zero row there = refl
own_row (first ∷ tasks) (suc number) row there = own_row tasks number row there

-- one that goes
pub went : (before tasks to : Tasks) (number : ℕ) (row : Record) → of_tasks.Changes before tasks number row to → to ≡ with_task before number None
    → is_some (task_at before number) ≡ true → IsOther before tasks number
went before tasks to number row changes is there same =
    let gone : task_at before number ≡ None = same ∙ ap (λ t. task_at t number) (changes.tasks ∙ is) ∙ own_row before number None there in
    let no : ⊥ = cc (sym there ∙ ap is_some gone) in
    no

-- one that leaves a mode
pub turned : (mode : Mode) (f : Task → Task) → ((task : Task) → is_mode (f task).mode mode ≡ false) → (before tasks to : Tasks) (number : ℕ) (row : Record)
    → of_tasks.Changes before tasks number row to → to ≡ of_tasks.changed before number f → is_in mode (task_at before number) ≡ true → IsOther before tasks number
turned mode f away before tasks to number row changes is inside same =
    elim (task_at before number) as (λ o. task_at before number ≡ o → is_in mode o ≡ true → tasks ≡ of_tasks.changed_row before number f o → ⊥) [
      | None ↦ λ there inside made. let no : ⊥ = cc in no
      | Some task ↦ λ there inside made.
          let now : task_at tasks number ≡ Some (f task) = ap (λ t. task_at t number) made ∙ own_row before number (Some (f task)) (ap is_some there) in
          let own : Some task ≡ Some (f task) = sym there ∙ same ∙ now in
          let no : ⊥ = cc (sym inside ∙ ap (is_in mode) own ∙ away task) in
          no
    ] refl inside (changes.tasks ∙ is)

-- a change of one task that is logged alone
pub task_logged : ((before after : Tasks) (log_before log_after : RecordList) (rows : List Record)
    → All (λ row. is_of_tasks row ≡ true) rows → log_after ≡ noting log_before rows → of_tasks.undone after rows ≡ before → of_tasks.HaveEffects after rows
    → TasksGoBack before after log_before log_after)
    → (before : ManagerState) (tasks to : Tasks) (log : RecordList) (number : ℕ) (row : Record) (reply : Reply) → of_tasks.Changes before.tasks tasks number row to
    → log ≡ record before.log { logged = row ∷ [] } → IsOther before.tasks tasks number → IsLogged before (record before { tasks = tasks; log = log }) (Ok reply)
task_logged law before tasks to log number row reply changes log_is other = record {
  accepted = law before.tasks tasks (emptied before.log) log (row ∷ [])
      (All-cons (λ row. is_of_tasks row ≡ true) row [] (ap is_of_tasks changes.was ∙ of_task number (task_at before.tasks number)) (All-nil (λ row. is_of_tasks row ≡ true)))
      log_is changes.undo (λ same. other (ap (λ t. task_at t number) (sym changes.undo ∙ same)), tt) (rows_in before);
  refused = tt;
}

-- one that goes back to user space isn't in the kernel
pub left_kernel : (moving : Option Transition) (task : Task) → is_mode (exited moving task).mode Kernel ≡ false
left_kernel None task = refl
left_kernel (Some move) task = refl
