-- All sentences on a run: what each line did, and from which line to which each stay lasts.
use Rattle.std.specs.Prelude.{ℕ, suc, Bool, true, false, ◌==◌, ◌&&◌, List, [], ◌∷◌, ◌++◌, map, filter, Option, Some, None, if◌then◌else◌}
use Rattle.std.specs.List.{list_any}
use Rattle.klp_timeline.specs.declared.moment.Moment.{Moment}
use Rattle.klp_timeline.specs.declared.moment.View.{View}
use Rattle.klp_timeline.specs.declared.moment.Fact.{Fact}
use Rattle.klp_timeline.specs.declared.moment.Sleep.{Sleep}
use Rattle.klp_timeline.specs.declared.moment.Said.TheVariants.{Did, Slept}
use Rattle.klp_timeline.specs.declared.moment.Sentence.{Sentence}
use Rattle.klp_timeline.specs.Stays.{is_same_stay_as, sleeps_begun}
use Rattle.klp_timeline.specs.Facts.{facts}

-- the sentence that a line did this
abbrev pub did : ℕ → Fact → Sentence
did line fact = record { line = line; said = Did fact }

-- whether two stays end with the same line, or both last until the end
abbrev pub is_end : Option ℕ → Option ℕ → Bool
is_end None None = true
is_end (Some to) (Some last) = to == last
is_end to last = false

-- stays that begin with the same line are alike if they are the same and end with the same line
abbrev pub is_alike : Sleep → Sleep → Bool
is_alike own other = is_same_stay_as own.stay other.stay && is_end own.to other.to

-- the tasks of all stays in the list that are alike to this one
abbrev pub tasks_alike : Sleep → List Sleep → List ℕ
tasks_alike own sleeps = map (λ (sleep : Sleep). sleep.task) (filter (is_alike own) sleeps)

-- the sentence of all stays that are alike to this one
abbrev pub slept : ℕ → Sleep → List Sleep → Sentence
slept line own sleeps = record { line = line; said = Slept (record { stay = own.stay; tasks = tasks_alike own sleeps; to = own.to }) }

-- the sentences of these stays, which come after those of `before`; a stay that is alike to an earlier one has none of
-- its own, since the earlier one's sentence names it
abbrev pub slept_from : ℕ → List Sleep → List Sleep → List Sleep → List Sentence
slept_from line sleeps before [] = []
slept_from line sleeps before (own ∷ rest) =
    (if list_any (is_alike own) before then [] else slept line own sleeps ∷ []) ++ slept_from line sleeps (before ++ own ∷ []) rest

-- the sentences of the stays that begin with a line
abbrev pub slept_of : ℕ → List Sleep → List Sentence
slept_of line sleeps = slept_from line sleeps [] sleeps

-- the sentences of a line, which the lines `rest` follow
abbrev pub said_of : View → ℕ → Moment → List Moment → List Sentence
said_of before line moment rest = map (did line) (facts before moment) ++ slept_of line (sleeps_begun 0 before.stays moment.view.stays line rest)

-- the sentences of these lines, the first of which has this number
abbrev pub sentences_from : View → ℕ → List Moment → List Sentence
sentences_from before line [] = []
sentences_from before line (moment ∷ rest) = said_of before line moment rest ++ sentences_from moment.view (suc line) rest

-- the sentences on a run
abbrev pub sentences_of : View → List Moment → List Sentence
sentences_of opening run = sentences_from opening 1 run
