-- How a transition is forced, and which patches are pinned.
use Rattle.std.specs.Prelude.{ℕ, ◌==◌, Bool, true, not, List, [], ◌∷◌, Option, Some, None, slice_set, if◌then◌else◌}
use Rattle.std.specs.List.{filter}
use Rattle.klp_model.specs.declared.event.Reply.{Reply}
use Rattle.klp_model.specs.declared.event.Reply.TheVariants.{Done}
use Rattle.klp_types.specs.declared.version.Transition.{Transition}
use Rattle.klp_types.specs.Setting.{Setting, replaces}
use Rattle.klp_model.specs.Task.{at_target, all_in}
use Rattle.klp_model.specs.State.{State, installed_patches}

abbrev pub pin_all : List ℕ → List Bool → List Bool
pin_all [] pinned = pinned
pin_all (patch ∷ patches) pinned = pin_all patches (slice_set pinned patch true)

-- the patches that are pinned when this transition is forced
abbrev pub pinned_by : Setting → State → Transition → List ℕ
pinned_by setting state move =
    if not move.target then move.patch ∷ []
    else if replaces setting move.patch then filter (λ p. not (p == move.patch)) (installed_patches state) else []

abbrev pub forced : Setting → State → Option Transition → Reply × State
forced setting state None = (Done, state)
forced setting state (Some move) =
    (Done, record state { tasks = all_in (at_target move.target) state.tasks; pinned = pin_all (pinned_by setting state move) state.pinned })
