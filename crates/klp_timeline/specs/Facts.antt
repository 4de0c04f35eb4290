-- What a line did.
use Rattle.std.specs.Prelude.{ℕ, Bool, true, false, ◌==◌, ◌||◌, List, [], ◌∷◌, ◌++◌, Option, Some, None, if◌then◌else◌}
use Rattle.std.specs.List.{list_any, count_by, flat_map}
use Rattle.std.specs.Option.{option_to_list}
use Rattle.klp_types.specs.declared.version.Transition.{Transition}
use Rattle.klp_timeline.specs.declared.moment.Moment.{Moment}
use Rattle.klp_timeline.specs.declared.moment.Stay.{Stay}
use Rattle.klp_timeline.specs.declared.moment.Stay.TheVariants.{Outdated}
use Rattle.klp_timeline.specs.declared.moment.View.{View}
use Rattle.klp_timeline.specs.declared.moment.Fact.{Fact}
use Rattle.klp_timeline.specs.declared.moment.Fact.TheVariants.{Undoes, Starts, Reverses, Completes, Leaves}
use Rattle.klp_timeline.specs.Stays.{is_same_transition_as}

-- whether the line undid events
abbrev pub is_undone : Option Fact → Bool
is_undone (Some (Undoes from to)) = true
is_undone other = false

-- whether a task sleeps inside of code that it wouldn't call now
abbrev pub is_outdated : Option Stay → Bool
is_outdated (Some (Outdated version)) = true
is_outdated other = false

-- what happens to a transition by an event; `stays` are the stays after it
abbrev pub turn : Option Transition → Option Transition → List (Option Stay) → Option Fact
turn None None stays = None
turn None (Some move) stays = Some (Starts move)
turn (Some move) None stays = Some (Completes move (count_by is_outdated stays))
turn (Some move) (Some other) stays = if is_same_transition_as move other then None else Some (Reverses other)

-- whether the patch is the one in transition
abbrev pub is_moving_patch : Option Transition → ℕ → Bool
is_moving_patch None patch = false
is_moving_patch (Some move) patch = move.patch == patch

-- the fact that a patch left, if it isn't installed now; for the patch in transition, its completion says so
abbrev pub leave_of : Option Transition → List ℕ → ℕ → List Fact
leave_of moved installed patch = if is_moving_patch moved patch || list_any (λ other. other == patch) installed then [] else Leaves patch ∷ []

-- the facts of a line: if it undid events, only that
abbrev pub facts : View → Moment → List Fact
facts before moment = option_to_list moment.act ++ (if is_undone moment.act then [] else
    option_to_list (turn before.moving moment.view.moving moment.view.stays)
    ++ flat_map (leave_of before.moving moment.view.installed.items) before.installed.items)
