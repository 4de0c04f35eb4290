-- Tasks stay right.
use Rattle.std.proofs.Common.{◌≡◌, ℕ, zero, suc, ℤ, Bool, true, false, not, ◌&&◌, ◌||◌, List, [], ◌∷◌, map, Option, Some, None, is_some, refl, ap}
use Rattle.std.specs.Prelude.{option_map, slice_set, if◌then◌else◌}
use Rattle.std.specs.List.{list_any}
use Rattle.std.proofs.lemmas.Bool.{and_parts, and_from}
use Rattle.klp_types.specs.declared.version.Version.{Version}
use Rattle.klp_types.specs.declared.version.Transition.{Transition}
use Rattle.klp_types.specs.declared.task.Mode.{Mode}
use Rattle.klp_types.specs.declared.task.Mode.TheVariants.{User, Kernel, Asleep}
use Rattle.klp_types.specs.Setting.{Setting}
use Rattle.klp_types.specs.declared.task.Task.{Task}
use Rattle.klp_model.specs.Task.{Tasks, task_at, is_mode, at_target, is_at, in_state, all_in}
use Rattle.klp_types.specs.Entries.{is_empty}
use Rattle.klp_model.specs.Frames.{is_bad}
use Rattle.klp_model.specs.Blocked.{is_held, switched}
use Rattle.klp_model.specs.TaskStep.{state_wanted, state_of_task, new_task, exited}
use Rattle.klp_model.specs.Allowed.{is_right_state, are_right_frames, is_right_task, AreRight}

pub wanted_right : (moving : Option Transition) → is_right_state moving (state_wanted moving) ≡ true
wanted_right None = refl
wanted_right (Some move) = by move.target
  where
    by : (t : Bool) → (is_at true (at_target t) || is_at false (at_target t)) ≡ true
    by true = refl
    by false = refl

module _ (setting : Setting) where
  -- a task may get another state
  state_changed : (moving other : Option Transition) (state : ℤ) (task : Task) → is_right_state other state ≡ true → is_right_task setting moving (Some task) ≡ true
      → is_right_task setting other (Some (in_state state task)) ≡ true
  state_changed moving other state task right was =
      and_from (is_right_state other state) (are_right_frames setting task) right (and_parts (is_right_state moving task.state) (are_right_frames setting task) was).1

  one_all : (moving other : Option Transition) (state : ℤ) (task : Option Task) → is_right_state other state ≡ true → is_right_task setting moving task ≡ true
      → is_right_task setting other (option_map (in_state state) task) ≡ true
  one_all moving other state None right was = refl
  one_all moving other state (Some task) right was = state_changed moving other state task right was

  pub right_all : (moving other : Option Transition) (state : ℤ) (tasks : Tasks) → is_right_state other state ≡ true → AreRight setting moving tasks → AreRight setting other (all_in state tasks)
  right_all moving other state [] right was = tt
  right_all moving other state (task ∷ tasks) right was = (one_all moving other state task right was.0, right_all moving other state tasks right was.1)

  pub right_set : (moving : Option Transition) (tasks : Tasks) (number : ℕ) (task : Option Task) → is_right_task setting moving task ≡ true → AreRight setting moving tasks
      → AreRight setting moving (slice_set tasks number task)
  right_set moving [] number task right was = tt
  right_set moving (first ∷ tasks) zero task right was = (right, was.1)
  right_set moving (first ∷ tasks) (suc number) task right was = (was.0, right_set moving tasks number task right was.1)

  pub right_at : (moving : Option Transition) (tasks : Tasks) (number : ℕ) → AreRight setting moving tasks → is_right_task setting moving (task_at tasks number) ≡ true
  right_at moving [] number was = refl
  right_at moving (first ∷ tasks) zero was = was.0
  right_at moving (first ∷ tasks) (suc number) was = right_at moving tasks number was.1

  -- the transition turns round
  pub right_turned : (move other : Transition) (tasks : Tasks) → AreRight setting (Some move) tasks → AreRight setting (Some other) tasks
  right_turned move other [] was = tt
  right_turned move other (None ∷ tasks) was = (refl, right_turned move other tasks was.1)
  right_turned move other (Some task ∷ tasks) was = (was.0, right_turned move other tasks was.1)

  one_tried : (move : Transition) (blocked : List Version) (task : Option Task) → is_right_task setting (Some move) task ≡ true
      → is_right_task setting (Some move) (option_map (switched blocked move.target) task) ≡ true
  one_tried move blocked None was = refl
  one_tried move blocked (Some task) was = by (is_mode task.mode Asleep && not (is_held blocked task.frames))
    where
      by : (t : Bool) → is_right_task setting (Some move) (Some (if t then in_state (at_target move.target) task else task)) ≡ true
      by true = state_changed (Some move) (Some move) (at_target move.target) task (wanted_right (Some move)) was
      by false = was

  pub right_tried : (move : Transition) (blocked : List Version) (tasks : Tasks) → AreRight setting (Some move) tasks
      → AreRight setting (Some move) (map (option_map (switched blocked move.target)) tasks)
  right_tried move blocked [] was = tt
  right_tried move blocked (task ∷ tasks) was = (one_tried move blocked task was.0, right_tried move blocked tasks was.1)

  -- a task that is awake has no frames
  awake : (mode : Mode) (a b : Bool) → is_mode mode Asleep ≡ false → (if is_mode mode Asleep then a else b) ≡ true → b ≡ true
  awake User a b e f = f
  awake Kernel a b e f = f
  awake Asleep a b e f = cc

  pub frames_awake : (moving : Option Transition) (task : Task) → is_mode task.mode Asleep ≡ false → is_right_task setting moving (Some task) ≡ true → is_empty task.frames ≡ true
  frames_awake moving task e was =
      awake task.mode (not (list_any (is_bad setting) task.frames)) (is_empty task.frames) e (and_parts (is_right_state moving task.state) (are_right_frames setting task) was).1

  user_awake : (mode : Mode) → is_mode mode User ≡ true → is_mode mode Asleep ≡ false
  user_awake User e = refl
  user_awake Kernel e = refl
  user_awake Asleep e = cc

  kernel_awake : (mode : Mode) → is_mode mode Kernel ≡ true → is_mode mode Asleep ≡ false
  kernel_awake User e = refl
  kernel_awake Kernel e = refl
  kernel_awake Asleep e = cc

  pub entered_right : (moving : Option Transition) (task : Task) → is_mode task.mode User ≡ true → is_right_task setting moving (Some task) ≡ true
      → is_right_task setting moving (Some (record task { mode = Kernel })) ≡ true
  entered_right moving task user was =
      and_from (is_right_state moving task.state) (is_empty task.frames) (and_parts (is_right_state moving task.state) (are_right_frames setting task) was).0
      (frames_awake moving task (user_awake task.mode user) was)

  pub exited_right : (moving : Option Transition) (task : Task) → is_mode task.mode Kernel ≡ true → is_right_task setting moving (Some task) ≡ true
      → is_right_task setting moving (Some (exited moving task)) ≡ true
  exited_right None task kernel was =
      and_from (is_right_state None task.state) (is_empty task.frames) (and_parts (is_right_state None task.state) (are_right_frames setting task) was).0
      (frames_awake None task (kernel_awake task.mode kernel) was)
  exited_right (Some move) task kernel was =
      and_from (is_right_state (Some move) (at_target move.target)) (is_empty task.frames) (wanted_right (Some move)) (frames_awake (Some move) task (kernel_awake task.mode kernel) was)

  pub asleep_right : (moving : Option Transition) (task : Task) (frames : List Version) → list_any (is_bad setting) frames ≡ false → is_right_task setting moving (Some task) ≡ true
      → is_right_task setting moving (Some (record task { mode = Asleep; frames = frames })) ≡ true
  asleep_right moving task frames good was =
      and_from (is_right_state moving task.state) (not (list_any (is_bad setting) frames)) (and_parts (is_right_state moving task.state) (are_right_frames setting task) was).0 (ap not good)

  pub woken_right : (moving : Option Transition) (task : Task) → is_right_task setting moving (Some task) ≡ true
      → is_right_task setting moving (Some (record task { mode = Kernel; frames = [] })) ≡ true
  woken_right moving task was = and_from (is_right_state moving task.state) true (and_parts (is_right_state moving task.state) (are_right_frames setting task) was).0 refl

  pub new_right : (moving : Option Transition) → is_right_task setting moving (Some (new_task (state_wanted moving))) ≡ true
  new_right moving = and_from (is_right_state moving (state_wanted moving)) true (wanted_right moving) refl

  pub forked_right : (moving : Option Transition) (parent : Option Task) → is_some parent ≡ true → is_right_task setting moving parent ≡ true
      → is_right_task setting moving (Some (record { state = state_of_task parent; mode = Kernel; frames = [] })) ≡ true
  forked_right moving None there was = cc
  forked_right moving (Some task) there was =
      and_from (is_right_state moving task.state) true (and_parts (is_right_state moving task.state) (are_right_frames setting task) was).0 refl
