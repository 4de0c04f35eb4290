-- The stays that begin with a line, and how long they last.
use Rattle.std.specs.Prelude.{ℕ, suc, Bool, true, false, not, ◌==◌, ◌&&◌, List, [], ◌∷◌, ◌++◌, Option, Some, None, if◌then◌else◌, slice_index_or}
use Rattle.klp_types.specs.declared.version.Transition.{Transition}
use Rattle.klp_model.specs.Blocked.{is_version}
use Rattle.klp_timeline.specs.declared.moment.Moment.{Moment}
use Rattle.klp_timeline.specs.declared.moment.Stay.{Stay}
use Rattle.klp_timeline.specs.declared.moment.Stay.TheVariants.{Holds, Outdated}
use Rattle.klp_timeline.specs.declared.moment.Sleep.{Sleep}

-- whether two targets are the same
abbrev pub is_way : Bool → Bool → Bool
is_way true other = other
is_way false other = not other

-- whether two transitions have the same patch and target
abbrev pub is_same_transition_as : Transition → Transition → Bool
is_same_transition_as own other = own.patch == other.patch && is_way own.target other.target

-- whether two stays are the same
abbrev pub is_same_stay_as : Stay → Stay → Bool
is_same_stay_as (Holds move version) (Holds other frame) = is_same_transition_as move other && is_version version frame
is_same_stay_as (Outdated version) (Outdated frame) = is_version version frame
is_same_stay_as own other = false

-- whether a task is in this stay, if it is in one
abbrev pub is_in_stay : Stay → Option Stay → Bool
is_in_stay stay None = false
is_in_stay stay (Some other) = is_same_stay_as stay other

-- the stay of a task, if it is in one
abbrev pub stay_at : List (Option Stay) → ℕ → Option Stay
stay_at stays task = slice_index_or stays task None

-- The last line of a stay that a task is in after this line, without a break, if these lines follow; none if it lasts
-- until the end.
abbrev pub until : ℕ → Stay → ℕ → List Moment → Option ℕ
until task stay line [] = None
until task stay line (moment ∷ rest) = if is_in_stay stay (stay_at moment.view.stays task) then until task stay (suc line) rest else Some line

-- a stay begins with a line if the task isn't in it after the line before
abbrev pub sleep_of : ℕ → Option Stay → Option Stay → ℕ → List Moment → List Sleep
sleep_of task before None line rest = []
sleep_of task before (Some stay) line rest =
    if is_in_stay stay before then [] else record { task = task; stay = stay; to = until task stay line rest } ∷ []

-- the stays that begin with a line, by the numbers of their tasks; the first of `stays` is of the task with this number
abbrev pub sleeps_begun : ℕ → List (Option Stay) → List (Option Stay) → ℕ → List Moment → List Sleep
sleeps_begun task before [] line rest = []
sleeps_begun task before (stay ∷ stays) line rest = sleep_of task (stay_at before task) stay line rest ++ sleeps_begun (suc task) before stays line rest
