-- What sentences claim about a run, and that none is missing.
use Rattle.std.specs.Prelude.{◌≡◌, ℕ, zero, suc, ◌<◌, ◌≤◌, List, [], ◌∷◌, length, Option, Some, None, IfSome, Contains}
use Rattle.klp_types.specs.declared.version.Transition.{Transition}
use Rattle.klp_timeline.specs.declared.course.Since.{Since}
use Rattle.klp_timeline.specs.declared.course.Since.TheVariants.{Turned, Undone}
use Rattle.klp_timeline.specs.declared.moment.Moment.{Moment}
use Rattle.klp_timeline.specs.declared.moment.Stay.{Stay}
use Rattle.klp_timeline.specs.declared.moment.View.{View}
use Rattle.klp_timeline.specs.declared.moment.Fact.{Fact}
use Rattle.klp_timeline.specs.declared.moment.Sleepers.{Sleepers}
use Rattle.klp_timeline.specs.declared.moment.Said.{Said}
use Rattle.klp_timeline.specs.declared.moment.Said.TheVariants.{Did, Slept}
use Rattle.klp_timeline.specs.declared.moment.Sentence.{Sentence}
use Rattle.klp_timeline.specs.Stays.{stay_at}
use Rattle.klp_timeline.specs.Facts.{facts}
use Rattle.klp_timeline.specs.Sentences.{sentences_of}
use Rattle.klp_timeline.specs.Course.{course_of}

-- the stay of a task after a line of a run; `index` counts lines from 0
abbrev pub seen_after : List Moment → ℕ → ℕ → Option Stay
seen_after [] index task = None
seen_after (moment ∷ run) zero task = stay_at moment.view.stays task
seen_after (moment ∷ run) (suc index) task = seen_after run index task

-- the facts of a line of a run
abbrev pub facts_at : View → List Moment → ℕ → List Fact
facts_at before [] index = []
facts_at before (moment ∷ run) zero = facts before moment
facts_at before (moment ∷ run) (suc index) = facts_at moment.view run index

-- a sentence about a stay spans the lines from its first to the last one of the stay
pub record Spans (from : ℕ) (sleepers : Sleepers) (line : ℕ) : Type 0 where
  pub begun : from ≤ line
  pub lasts : IfSome sleepers.to (λ to. line ≤ to)

-- one of the sentences spans the line, and names the task and its stay
pub record IsShown (sentences : List Sentence) (task : ℕ) (stay : Stay) (line : ℕ) : Type 0 where
  pub from : ℕ
  pub sleepers : Sleepers
  pub among : Contains sentences (record { line = from; said = Slept sleepers })
  pub names : Contains sleepers.tasks task
  pub stay_is : sleepers.stay ≡ stay
  pub spans : Spans from sleepers line

-- at the beginning of a run no task is in a stay
abbrev pub IsQuiet : View → Type 0
IsQuiet opening = (task : ℕ) → stay_at opening.stays task ≡ None

-- each stay of each task after each line has a sentence
abbrev pub IsAllShown : View → List Moment → Type 0
IsAllShown opening run = (index task : ℕ) (stay : Stay) → seen_after run index task ≡ Some stay → IsShown (sentences_of opening run) task stay (suc index)

-- each fact of each line has a sentence
abbrev pub IsEachFactShown : View → List Moment → Type 0
IsEachFactShown opening run = (index : ℕ) (fact : Fact) → Contains (facts_at opening run index) fact
    → Contains (sentences_of opening run) (record { line = suc index; said = Did fact })

-- the line did this
pub record IsFactOf (opening : View) (run : List Moment) (line : ℕ) (fact : Fact) : Type 0 where
  pub index : ℕ
  pub line_is : line ≡ suc index
  pub among : Contains (facts_at opening run index) fact

-- after each line that a sentence about a stay spans, each task that it names is in that stay
abbrev pub AreSeen : List Moment → ℕ → Sleepers → Type 0
AreSeen run from sleepers = (task index : ℕ) → Contains sleepers.tasks task → index < length run → Spans from sleepers (suc index)
    → seen_after run index task ≡ Some sleepers.stay

-- what a sentence says is true of the run
abbrev pub IsTrueOf : View → List Moment → ℕ → Said → Type 0
IsTrueOf opening run line (Did fact) = IsFactOf opening run line fact
IsTrueOf opening run line (Slept sleepers) = AreSeen run line sleepers

-- each sentence is true of the run
abbrev pub IsAllTrue : View → List Moment → Type 0
IsAllTrue opening run = (sentence : Sentence) → Contains (sentences_of opening run) sentence → IsTrueOf opening run sentence.line sentence.said

-- the line since which a transition has its target; 0 if it had it before the run
abbrev pub first_line : Option Since → ℕ
first_line None = 0
first_line (Some (Turned line)) = line
first_line (Some (Undone line)) = line

-- the transition after a line of a run; `index` counts lines from 0
abbrev pub moving_after : List Moment → ℕ → Option Transition
moving_after [] index = None
moving_after (moment ∷ run) zero = moment.view.moving
moving_after (moment ∷ run) (suc index) = moving_after run index

-- the transition at the end of a run, if `moving` is the one at its beginning
abbrev pub moving_end : Option Transition → List Moment → Option Transition
moving_end moving [] = moving
moving_end moving (moment ∷ run) = moving_end moment.view.moving run

-- the transition at the end has had its target since the line of its course
abbrev pub IsGoingSince : View → List Moment → Type 0
IsGoingSince opening run = (move : Transition) → moving_end opening.moving run ≡ Some move → (index : ℕ) → index < length run
    → first_line (course_of (sentences_of opening run)).since ≤ suc index → moving_after run index ≡ Some move
