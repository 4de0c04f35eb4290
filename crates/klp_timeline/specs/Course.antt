-- The course of the transition at the end of a run; if there is none then, of the last one.
use Rattle.std.specs.Prelude.{ℕ, true, false, List, [], ◌∷◌, Some, None}
use Rattle.klp_timeline.specs.declared.course.Since.TheVariants.{Turned, Undone}
use Rattle.klp_timeline.specs.declared.course.Course.{Course}
use Rattle.klp_timeline.specs.declared.moment.Fact.{Fact}
use Rattle.klp_timeline.specs.declared.moment.Fact.TheVariants.{Forces, Undoes, Starts, Reverses}
use Rattle.klp_timeline.specs.declared.moment.Said.{Said}
use Rattle.klp_timeline.specs.declared.moment.Said.TheVariants.{Did, Slept}
use Rattle.klp_timeline.specs.declared.moment.Sentence.{Sentence}

-- A transition starts unforced, and reversing it doesn't change that. After an undo only the line of the undo is known.
abbrev pub after_fact : Course → ℕ → Fact → Course
after_fact course line (Starts move) = record { since = Some (Turned line); is_forced = false }
after_fact course line (Reverses move) = record course { since = Some (Turned line) }
after_fact course line (Undoes from to) = record { since = Some (Undone line); is_forced = false }
after_fact course line (Forces move) = record course { is_forced = true }
after_fact course line fact = course

-- the course after this sentence of a line
abbrev pub after_said : Course → ℕ → Said → Course
after_said course line (Did fact) = after_fact course line fact
after_said course line (Slept sleepers) = course

-- the course after these sentences
abbrev pub course_from : Course → List Sentence → Course
course_from course [] = course
course_from course (sentence ∷ rest) = course_from (after_said course sentence.line sentence.said) rest

-- the course of the last transition of a run
abbrev pub course_of : List Sentence → Course
course_of sentences = course_from (record { since = None; is_forced = false }) sentences
