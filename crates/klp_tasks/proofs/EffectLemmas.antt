-- Each record of a switch tells a task that has another state now.
use Rattle.std.proofs.Common.{◌≡◌, ℕ, zero, suc, ◌<◌, true, false, cond, [], ◌∷◌, ◌++◌, refl, sym, ap, ◌∙◌, arith, Option, Some, None}
use Rattle.std.specs.Option.{option_to_list}
use Rattle.std.specs.Ordering.{int_eq}
use Rattle.std.proofs.lemmas.Bool.Decides.{Decides-int_eq}
use Rattle.klp_types.specs.declared.record.Record.TheVariants.{TaskRow}
use Rattle.klp_types.specs.declared.task.Task.{Task}
use Rattle.klp_model.specs.Task.{Tasks, task_at, with_task}
use Rattle.klp_tasks.specs.Changes.{undone, records_switched, HaveEffects}

-- a task that is there gets another row
own_row : (tasks : Tasks) (number : ℕ) (task : Task) (row : Option Task) → task_at tasks number ≡ Some task → task_at (with_task tasks number row) number ≡ row
own_row [] number task row there = let no : ⊥ = cc in absurd no
own_row (first ∷ tasks) zero task row there = refl
own_row (first ∷ tasks) (suc number) task row there = own_row tasks number task row there

-- the row of a lower number stays
lower_row : (tasks : Tasks) (number other : ℕ) (row : Option Task) → number < other → task_at (with_task tasks other row) number ≡ task_at tasks number
lower_row [] number other row below = refl
lower_row (first ∷ tasks) number zero row below = absurd (omega arith)
lower_row (first ∷ tasks) zero (suc other) row below = refl
lower_row (first ∷ tasks) (suc number) (suc other) row below = lower_row tasks number other row (omega arith)

-- rows are put back from a number on, and those below it stay
lower_kept : (tasks : Tasks) (number start : ℕ) (before after : Tasks) → number < start → task_at (undone tasks (records_switched start before after)) number ≡ task_at tasks number
lower_kept tasks number start [] after below = refl
lower_kept tasks number start (was ∷ before) [] below = refl
lower_kept tasks number start (None ∷ before) (task ∷ after) below = lower_kept tasks number (suc start) before after (omega arith)
lower_kept tasks number start (Some was ∷ before) (None ∷ after) below = lower_kept tasks number (suc start) before after (omega arith)
lower_kept tasks number start (Some was ∷ before) (Some task ∷ after) below =
    let rest = lower_kept tasks number (suc start) before after (omega arith) in
    elim (int_eq was.state task.state) as (λ same. task_at (undone tasks (option_to_list (cond same None (Some (TaskRow start was))) ++ records_switched (suc start) before after)) number ≡ task_at tasks number) [
      | true ↦ rest
      | false ↦ lower_row (undone tasks (records_switched (suc start) before after)) number start (Some was) below ∙ rest
    ]

-- the rows from a number on are these
abbrev AreFrom : Tasks → ℕ → Tasks → Type 0
AreFrom tasks start [] = Unit {0}
AreFrom tasks start (task ∷ after) = (task_at tasks start ≡ task) × AreFrom tasks (suc start) after

effective_from : (tasks : Tasks) (start : ℕ) (before after : Tasks) → AreFrom tasks start after → HaveEffects tasks (records_switched start before after)
effective_from tasks start [] after stand = tt
effective_from tasks start (was ∷ before) [] stand = tt
effective_from tasks start (None ∷ before) (task ∷ after) stand = effective_from tasks (suc start) before after stand.1
effective_from tasks start (Some was ∷ before) (None ∷ after) stand = effective_from tasks (suc start) before after stand.1
effective_from tasks start (Some was ∷ before) (Some task ∷ after) stand =
    let rest = effective_from tasks (suc start) before after stand.1 in
    let newer = undone tasks (records_switched (suc start) before after) in
    let there : task_at newer start ≡ Some task = lower_kept tasks start (suc start) before after (omega arith) ∙ stand.0 in
    elim (int_eq was.state task.state) as (λ same. int_eq was.state task.state ≡ same → HaveEffects tasks (option_to_list (cond same None (Some (TaskRow start was))) ++ records_switched (suc start) before after)) [
      | true ↦ λ is. rest
      | false ↦ λ is. (
        λ same.
            let own : Some was ≡ Some task = sym (own_row newer start task (Some was) there) ∙ ap (λ t. task_at t start) same ∙ there in
            let states : was.state ≡ task.state = cc in
            let yes = (Decides-int_eq was.state task.state).1 states in
            cc,
        rest,
      )
    ] refl

stand_next : (first : Option Task) (tasks : Tasks) (start : ℕ) (after : Tasks) → AreFrom tasks start after → AreFrom (first ∷ tasks) (suc start) after
stand_next first tasks start [] stand = tt
stand_next first tasks start (task ∷ after) stand = (stand.0, stand_next first tasks (suc start) after stand.1)

stand_all : (tasks : Tasks) → AreFrom tasks 0 tasks
stand_all [] = tt
stand_all (first ∷ tasks) = (refl, stand_next first tasks 0 tasks (stand_all tasks))

-- a switch tells no task that had the state
pub switched_effective : (before after : Tasks) → HaveEffects after (records_switched 0 before after)
switched_effective before after = effective_from after 0 before after (stand_all after)
