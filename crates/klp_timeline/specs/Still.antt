-- Lines without anything to say.
use Rattle.std.specs.Prelude.{Bool, true, false, ◌==◌, ◌&&◌, ℕ, List, [], ◌∷◌, Option, Some, None, is_none}
use Rattle.klp_types.specs.declared.version.Transition.{Transition}
use Rattle.klp_timeline.specs.declared.moment.Moment.{Moment}
use Rattle.klp_timeline.specs.declared.moment.Stay.{Stay}
use Rattle.klp_timeline.specs.declared.moment.View.{View}
use Rattle.klp_timeline.specs.Stays.{is_same_transition_as, is_in_stay}

-- whether both views show the same transition, or both none
abbrev pub is_same_move : Option Transition → Option Transition → Bool
is_same_move None None = true
is_same_move (Some move) (Some other) = is_same_transition_as move other
is_same_move before after = false

-- whether a task is in the same stay before and after, or in none both times
abbrev pub is_same_stay : Option Stay → Option Stay → Bool
is_same_stay None None = true
is_same_stay (Some stay) after = is_in_stay stay after
is_same_stay None (Some stay) = false

-- whether each task is in the same stay as before, or in none
abbrev pub are_same : List (Option Stay) → List (Option Stay) → Bool
are_same [] [] = true
are_same (before ∷ stays) (after ∷ others) = is_same_stay before after && are_same stays others
are_same stays others = false

-- whether two lists have the same patches in the same order
abbrev pub are_equal : List ℕ → List ℕ → Bool
are_equal [] [] = true
are_equal (patch ∷ patches) (other ∷ others) = patch == other && are_equal patches others
are_equal patches others = false

-- The line did nothing that views don't show, and in the views the transition, the patches and the stays are as before.
abbrev pub is_still : View → Moment → Bool
is_still before moment =
    is_none moment.act && is_same_move before.moving moment.view.moving && are_equal before.installed.items moment.view.installed.items
    && are_same before.stays moment.view.stays
