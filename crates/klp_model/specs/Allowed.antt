-- Allowed states: what holds of every state that the manager reaches.
use Rattle.std.specs.Prelude.{◌≡◌, ℕ, ◌≤◌, ℤ, Bool, true, false, not, ◌==◌, ◌&&◌, ◌||◌, List, [], ◌∷◌, length, Option, Some, None, if◌then◌else◌}
use Rattle.std.specs.List.{list_any}
use Rattle.std.specs.FinMap as finite
use Rattle.klp_types.specs.declared.limits.TheConstants.{MAX_VARIABLES}
use Rattle.klp_types.specs.declared.limits.TheConstants.{MAX_TASKS}
use Rattle.klp_types.specs.declared.task.Mode.TheVariants.{Asleep}
use Rattle.klp_types.specs.declared.version.Transition.{Transition}
use Rattle.klp_types.specs.Setting.{Setting, replaces}
use Rattle.klp_types.specs.declared.task.Task.{Task}
use Rattle.klp_model.specs.Task.{Tasks, is_mode, is_at_rest, is_at}
use Rattle.klp_model.specs.State.{State, is_loaded, installed_patches}
use Rattle.klp_types.specs.Entries.{is_empty}
use Rattle.klp_types.specs.Pick.{moves}
use Rattle.klp_model.specs.Frames.{is_bad}
use Rattle.klp_model.specs.Refusals.{has_patch, lacks_symbol}

-- whether a patch is one of these
abbrev pub is_one_of : ℕ → List ℕ → Bool
is_one_of patch patches = list_any (λ p. p == patch) patches

abbrev pub AreDistinct : List ℕ → Type 0
AreDistinct [] = Unit {0}
AreDistinct (patch ∷ newer) = (is_one_of patch newer ≡ false) × AreDistinct newer

-- the patch in transition, if any, is one of these
abbrev pub MovesOneOf : Option Transition → List ℕ → Type 0
MovesOneOf None patches = Unit {0}
MovesOneOf (Some move) patches = is_one_of move.patch patches ≡ true

-- of patches that have older ones: a cumulative one is the newest, and in transition
abbrev pub AreAbove : Setting → Option Transition → List ℕ → Type 0
AreAbove setting moving [] = Unit {0}
AreAbove setting moving (patch ∷ newer) = (replaces setting patch ≡ true → (newer ≡ []) × (moves moving patch ≡ true)) × AreAbove setting moving newer

-- of all installed patches: only the oldest may be cumulative without being the newest and in transition
abbrev pub AreStacked : Setting → Option Transition → List ℕ → Type 0
AreStacked setting moving [] = Unit {0}
AreStacked setting moving (oldest ∷ newer) = AreAbove setting moving newer

-- the catalog has these patches
abbrev pub AreKnown : Setting → List ℕ → Type 0
AreKnown setting [] = Unit {0}
AreKnown setting (patch ∷ patches) = (has_patch setting patch ≡ true) × AreKnown setting patches

-- none of these patches lacks a symbol of an object that is loaded by these flags
abbrev pub NoneLacks : Setting → List Bool → List ℕ → Type 0
NoneLacks setting loaded [] = Unit {0}
NoneLacks setting loaded (patch ∷ patches) = (lacks_symbol setting loaded patch ≡ false) × NoneLacks setting loaded patches

-- the patch state of a task is -1 if there is no transition, else 0 or 1
abbrev pub is_right_state : Option Transition → ℤ → Bool
is_right_state None state = is_at_rest state
is_right_state (Some move) state = is_at true state || is_at false state

-- only a sleeping task has frames, and the image and the catalog have them; their type allows at most 32
abbrev pub are_right_frames : Setting → Task → Bool
are_right_frames setting task = if is_mode task.mode Asleep then not (list_any (is_bad setting) task.frames) else is_empty task.frames

abbrev pub is_right_task : Setting → Option Transition → Option Task → Bool
is_right_task setting moving None = true
is_right_task setting moving (Some task) = is_right_state moving task.state && are_right_frames setting task

abbrev pub AreRight : Setting → Option Transition → Tasks → Type 0
AreRight setting moving [] = Unit {0}
AreRight setting moving (task ∷ tasks) = (is_right_task setting moving task ≡ true) × AreRight setting moving tasks

pub record Allowed (setting : Setting) (state : State) : Type 0 where
  -- `vmlinux` is loaded
  pub kernel : is_loaded state 0 ≡ true
  pub known : AreKnown setting (installed_patches state)
  pub distinct : AreDistinct (installed_patches state)
  pub moving : MovesOneOf state.moving (installed_patches state)
  pub stacked : AreStacked setting state.moving (installed_patches state)
  pub symbols : NoneLacks setting state.loaded (installed_patches state)
  pub tasks : AreRight setting state.moving state.tasks
  pub room : finite.len state.world.shadow ≤ MAX_VARIABLES
  -- there is a flag or a row for each object, task and patch
  pub objects : length state.loaded ≡ length setting.image.objects
  pub rows : length state.tasks ≡ MAX_TASKS
  pub flags : length state.pinned ≡ length setting.patches
