-- What a view has of each number.
use Rattle.std.proofs.Common.{◌≡◌, ℕ, zero, suc, List, [], ◌∷◌, map, Option, Some, None, refl, sym, ap, ◌∙◌}
use Rattle.std.specs.Prelude.{replicate}
use Rattle.klp_types.specs.declared.limits.TheConstants.{MAX_TASKS}
use Rattle.klp_types.specs.declared.task.Task.{Task}
use Rattle.klp_types.specs.declared.version.Transition.{Transition}
use Rattle.klp_types.specs.Setting.{Setting}
use Rattle.klp_model.specs.Opening.{opening_state}
use Rattle.klp_model.specs.State.{State}
use Rattle.klp_model.specs.Task.{task_at}
use Rattle.klp_core.specs.Holders.{is_blocked, lag_at}
use Rattle.klp_timeline.specs.declared.moment.Stay.{Stay}
use Rattle.klp_timeline.specs.declared.moment.View.{View}
use Rattle.klp_timeline.specs.Stays.{stay_at}
use Rattle.klp_timeline.specs.Telling.{IsQuiet}
use Rattle.klp_page.specs.Views.{stay_by, stay_in, IsView}

-- where no task is, none sleeps
none_there : (setting : Setting) (state : State) → stay_in setting state None ≡ None
none_there setting state = by state.moving
  where
    by : (moving : Option Transition) → stay_by moving (lag_at (is_blocked setting state) moving None) None ≡ None
    by None = refl
    by (Some move) = refl

none_at : (f : Option Task → Option Stay) → f None ≡ None → (count task : ℕ) → stay_at (map f (replicate count None)) task ≡ None
none_at f none zero zero = refl
none_at f none zero (suc task) = refl
none_at f none (suc count) zero = none
none_at f none (suc count) (suc task) = none_at f none count task

-- each is by the row of its number
each_at : (f : Option Task → Option Stay) → f None ≡ None → (tasks : List (Option Task)) (task : ℕ) → stay_at (map f tasks) task ≡ f (task_at tasks task)
each_at f none [] zero = sym none
each_at f none [] (suc task) = sym none
each_at f none (row ∷ tasks) zero = refl
each_at f none (row ∷ tasks) (suc task) = each_at f none tasks task

pub stay_seen : (setting : Setting) (state : State) (view : View) (task : ℕ) → IsView setting state view
    → stay_at view.stays task ≡ stay_in setting state (task_at state.tasks task)
stay_seen setting state view task is =
    ap (λ stays. stay_at stays task) is.stays ∙ each_at (stay_in setting state) (none_there setting state) state.tasks task

pub quiet_at_first : (setting : Setting) (view : View) → IsView setting (opening_state setting) view → IsQuiet view × (view.moving ≡ None)
quiet_at_first setting view is = (
  λ task. ap (λ stays. stay_at stays task) is.stays ∙ none_at (stay_in setting (opening_state setting)) (none_there setting (opening_state setting)) MAX_TASKS task,
  is.moving,
)
