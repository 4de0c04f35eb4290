-- Since when a transition goes its way.
use Rattle.std.proofs.Common.{◌≡◌, ℕ, zero, suc, ◌+◌, ◌<◌, ◌≤◌, Bool, true, false, cond, List, [], ◌∷◌, ◌++◌, map, length, Option, Some, None, ◌⊎◌, inl, inr, refl, sym, ap, subst, ◌∙◌, arith}
use Rattle.std.specs.List.{list_any, flat_map}
use Rattle.std.specs.Option.{option_to_list}
use Rattle.klp_types.specs.declared.version.Transition.{Transition}
use Rattle.klp_timeline.specs.declared.course.Course.{Course}
use Rattle.klp_timeline.specs.declared.moment.Moment.{Moment}
use Rattle.klp_timeline.specs.declared.moment.Stay.{Stay}
use Rattle.klp_timeline.specs.declared.moment.View.{View}
use Rattle.klp_timeline.specs.declared.moment.Fact.{Fact}
use Rattle.klp_timeline.specs.declared.moment.Fact.TheVariants.{Forces, PreFailed, Comes, Goes, Undoes, Starts, Reverses, Completes, Leaves}
use Rattle.klp_timeline.specs.declared.moment.Sleep.{Sleep}
use Rattle.klp_timeline.specs.declared.moment.Sentence.{Sentence}
use Rattle.klp_timeline.specs.Stays.{is_same_transition_as, sleeps_begun}
use Rattle.klp_timeline.specs.Facts.{is_undone, turn, leave_of, facts}
use Rattle.klp_timeline.specs.Sentences.{did, is_alike, slept, slept_from, said_of, sentences_from}
use Rattle.klp_timeline.specs.Course.{after_fact, after_said, course_from}
use Rattle.klp_timeline.specs.Telling.{first_line, moving_after, moving_end, IsGoingSince}
use Rattle.klp_timeline.proofs.StayLemmas.{same_transition}

course_append : (course : Course) (xs ys : List Sentence) → course_from course (xs ++ ys) ≡ course_from (course_from course xs) ys
course_append course [] ys = refl
course_append course (x ∷ xs) ys = course_append (after_said course x.line x.said) xs ys

-- who sleeps doesn't change it
slept_keeps : (course : Course) (line : ℕ) (sleeps before rest : List Sleep) → course_from course (slept_from line sleeps before rest) ≡ course
slept_keeps course line sleeps before [] = refl
slept_keeps course line sleeps before (own ∷ rest) = by (list_any (is_alike own) before) (slept_keeps course line sleeps (before ++ own ∷ []) rest)
  where
    by : (b : Bool) → course_from course (slept_from line sleeps (before ++ own ∷ []) rest) ≡ course
        → course_from course (cond b [] (slept line own sleeps ∷ []) ++ slept_from line sleeps (before ++ own ∷ []) rest) ≡ course
    by true kept = kept
    by false kept = kept

-- after what a line did
abbrev course_by : Course → ℕ → List Fact → Course
course_by course line done = course_from course (map (did line) done)

said_course : (course : Course) (before : View) (line : ℕ) (moment : Moment) (rest : List Moment)
    → course_from course (said_of before line moment rest) ≡ course_by course line (facts before moment)
said_course course before line moment rest = by (sleeps_begun 0 before.stays moment.view.stays line rest)
  where
    by : (begun : List Sleep) → course_from course (map (did line) (facts before moment) ++ slept_from line begun [] begun) ≡ course_by course line (facts before moment)
    by begun =
        course_append course (map (did line) (facts before moment)) (slept_from line begun [] begun)
        ∙ slept_keeps (course_by course line (facts before moment)) line begun [] begun

-- a fact leaves it, or it goes so since this line
one_fact : (course : Course) (line : ℕ) (fact : Fact)
    → ((after_fact course line fact).since ≡ course.since) ⊎ (first_line (after_fact course line fact).since ≡ line)
one_fact course line (Forces move) = inl refl
one_fact course line (PreFailed patch object status) = inl refl
one_fact course line (Comes object) = inl refl
one_fact course line (Goes object) = inl refl
one_fact course line (Undoes from to) = inr refl
one_fact course line (Starts move) = inr refl
one_fact course line (Reverses move) = inr refl
one_fact course line (Completes move sleepers) = inl refl
one_fact course line (Leaves patch) = inl refl

still_this : (course : Course) (line : ℕ) (done : List Fact) → first_line course.since ≡ line → first_line (course_by course line done).since ≡ line
still_this course line [] e = e
still_this course line (fact ∷ done) e = still_this (after_fact course line fact) line done (elim (one_fact course line fact) [
  | inl same ↦ ap first_line same ∙ e
  | inr this ↦ this
])

by_facts : (course : Course) (line : ℕ) (done : List Fact)
    → ((course_by course line done).since ≡ course.since) ⊎ (first_line (course_by course line done).since ≡ line)
by_facts course line [] = inl refl
by_facts course line (fact ∷ done) = elim (one_fact course line fact) [
  | inl same ↦ elim (by_facts (after_fact course line fact) line done) [ inl more ↦ inl (more ∙ same) | inr this ↦ inr this ]
  | inr this ↦ inr (still_this (after_fact course line fact) line done this)
]

-- sentences of later lines leave it, or it goes so since one of these
by_lines : (course : Course) (before : View) (line : ℕ) (run : List Moment)
    → ((course_from course (sentences_from before line run)).since ≡ course.since) ⊎ (line ≤ first_line (course_from course (sentences_from before line run)).since)
by_lines course before line [] = inl refl
by_lines course before line (moment ∷ rest) =
    subst (λ (k : Course). (k.since ≡ course.since) ⊎ (line ≤ first_line k.since)) (sym whole)
    (by (by_lines (course_by course line (facts before moment)) moment.view (suc line) rest) (by_facts course line (facts before moment)))
  where
    whole : course_from course (sentences_from before line (moment ∷ rest)) ≡ course_from (course_by course line (facts before moment)) (sentences_from moment.view (suc line) rest)
    whole = course_append course (said_of before line moment rest) (sentences_from moment.view (suc line) rest)
        ∙ ap (λ k. course_from k (sentences_from moment.view (suc line) rest)) (said_course course before line moment rest)

    at_line : (now own : ℕ) → now ≡ own → own ≡ line → line ≤ now
    at_line now own same this = omega arith

    past_line : (now : ℕ) → suc line ≤ now → line ≤ now
    past_line now past = omega arith

    by : ((course_from (course_by course line (facts before moment)) (sentences_from moment.view (suc line) rest)).since ≡ (course_by course line (facts before moment)).since)
        ⊎ (suc line ≤ first_line (course_from (course_by course line (facts before moment)) (sentences_from moment.view (suc line) rest)).since)
        → ((course_by course line (facts before moment)).since ≡ course.since) ⊎ (first_line (course_by course line (facts before moment)).since ≡ line)
        → ((course_from (course_by course line (facts before moment)) (sentences_from moment.view (suc line) rest)).since ≡ course.since)
        ⊎ (line ≤ first_line (course_from (course_by course line (facts before moment)) (sentences_from moment.view (suc line) rest)).since)
    by (inl later) (inl same) = inl (later ∙ same)
    by (inl later) (inr this) = inr (at_line _ _ (ap first_line later) this)
    by (inr past) here = inr (past_line _ past)

-- what moves after a line moved before it, or does so since this line
turn_going : (course : Course) (line : ℕ) (moved : Option Transition) (move : Transition) (stays : List (Option Stay)) (left : List Fact)
    → (moved ≡ Some move) ⊎ (first_line (course_by course line (option_to_list (turn moved (Some move) stays) ++ left)).since ≡ line)
turn_going course line None move stays left = inr (still_this (after_fact course line (Starts move)) line left refl)
turn_going course line (Some own) move stays left = by (is_same_transition_as own move) refl
  where
    by : (b : Bool) → is_same_transition_as own move ≡ b
        → (Some own ≡ Some move) ⊎ (first_line (course_by course line (option_to_list (cond b None (Some (Reverses move))) ++ left)).since ≡ line)
    by true is = inl (ap Some (same_transition own move is))
    by false is = inr (still_this (after_fact course line (Reverses move)) line left refl)

-- the same where the line did this first
act_going : (course : Course) (line : ℕ) (act : Option Fact) (moved : Option Transition) (move : Transition) (stays : List (Option Stay)) (left : List Fact)
    → (moved ≡ Some move)
    ⊎ (first_line (course_by course line (option_to_list act ++ cond (is_undone act) [] (option_to_list (turn moved (Some move) stays) ++ left))).since ≡ line)
act_going course line None moved move stays left = turn_going course line moved move stays left
act_going course line (Some (Undoes from to)) moved move stays left = inr refl
act_going course line (Some (Forces own)) moved move stays left = turn_going (after_fact course line (Forces own)) line moved move stays left
act_going course line (Some (PreFailed patch object status)) moved move stays left = turn_going course line moved move stays left
act_going course line (Some (Comes object)) moved move stays left = turn_going course line moved move stays left
act_going course line (Some (Goes object)) moved move stays left = turn_going course line moved move stays left
act_going course line (Some (Starts own)) moved move stays left = turn_going (after_fact course line (Starts own)) line moved move stays left
act_going course line (Some (Reverses own)) moved move stays left = turn_going (after_fact course line (Reverses own)) line moved move stays left
act_going course line (Some (Completes own sleepers)) moved move stays left = turn_going course line moved move stays left
act_going course line (Some (Leaves patch)) moved move stays left = turn_going course line moved move stays left

line_going : (course : Course) (before : View) (line : ℕ) (moment : Moment) (move : Transition) → moment.view.moving ≡ Some move
    → (before.moving ≡ Some move) ⊎ (first_line (course_by course line (facts before moment)).since ≡ line)
line_going course before line moment move e =
    subst (λ now. (before.moving ≡ Some move)
    ⊎ (first_line (course_by course line (option_to_list moment.act ++ cond (is_undone moment.act) [] (option_to_list (turn before.moving now moment.view.stays)
    ++ flat_map (leave_of before.moving moment.view.installed.items) before.installed.items))).since ≡ line)) (sym e)
    (act_going course line moment.act before.moving move moment.view.stays (flat_map (leave_of before.moving moment.view.installed.items) before.installed.items))

-- what moves after these lines has moved since this one
record GoesSo (before : View) (line : ℕ) (run : List Moment) (move : Transition) (first : ℕ) : Type 0 where
  pub after : (index : ℕ) → index < length run → first ≤ line + index → moving_after run index ≡ Some move
  pub ahead : first < line → before.moving ≡ Some move

going : (course : Course) (before : View) (line : ℕ) (run : List Moment) (move : Transition) → moving_end before.moving run ≡ Some move
    → GoesSo before line run move (first_line (course_from course (sentences_from before line run)).since)
going course before line [] move e = record { after = λ index short since. absurd (none index short); ahead = λ early. e }
  where
    none : (index : ℕ) → index < 0 → ⊥
    none index lt = omega arith
going course before line (moment ∷ rest) move e =
    subst (λ (k : Course). GoesSo before line (moment ∷ rest) move (first_line k.since)) (sym whole)
    (by (course_from (course_by course line (facts before moment)) (sentences_from moment.view (suc line) rest)) (going (course_by course line (facts before moment)) moment.view (suc line) rest move e) (by_lines (course_by course line (facts before moment)) moment.view (suc line) rest))
  where
    whole : course_from course (sentences_from before line (moment ∷ rest)) ≡ course_from (course_by course line (facts before moment)) (sentences_from moment.view (suc line) rest)
    whole = course_append course (said_of before line moment rest) (sentences_from moment.view (suc line) rest)
        ∙ ap (λ k. course_from k (sentences_from moment.view (suc line) rest)) (said_course course before line moment rest)

    by : (end : Course) → GoesSo moment.view (suc line) rest move (first_line end.since)
        → (end.since ≡ (course_by course line (facts before moment)).since) ⊎ (suc line ≤ first_line end.since) → GoesSo before line (moment ∷ rest) move (first_line end.since)
    by end later since = record { after = each; ahead = early }
      where
        each : (index : ℕ) → index < suc (length rest) → first_line end.since ≤ line + index → moving_after (moment ∷ rest) index ≡ Some move
        each zero short le = later.ahead (omega arith)
        each (suc index) short le = later.after index (omega arith) (omega arith)

        not_this : (now own : ℕ) → now ≡ own → own ≡ line → now < line → ⊥
        not_this now own same this lt = omega arith

        not_past : (now : ℕ) → suc line ≤ now → now < line → ⊥
        not_past now past lt = omega arith

        early : first_line end.since < line → before.moving ≡ Some move
        early lt = elim (line_going course before line moment move (later.ahead (omega arith))) [
          | inl same ↦ same
          | inr this ↦ elim since [
            | inl kept ↦ absurd (not_this _ _ (ap first_line kept) this lt)
            | inr past ↦ absurd (not_past _ past lt)
          ]
        ]

pub going_since : (opening : View) (run : List Moment) → IsGoingSince opening run
going_since opening run move e index short since =
    (going (record { since = None; is_forced = false }) opening 1 run move e).after index short (omega (arith, since))
