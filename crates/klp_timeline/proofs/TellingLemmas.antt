-- What the sentences claim of a run.
use Rattle.std.proofs.Common.{◌≡◌, ℕ, zero, suc, ◌+◌, ◌<◌, ◌≤◌, Bool, true, false, cond, List, [], ◌∷◌, ◌++◌, map, length, Option, Some, None, ◌⊎◌, inl, inr, refl, sym, ap, subst, ◌∙◌, arith}
use Rattle.std.specs.Prelude.{IfSome, Contains, slice_index_or}
use Rattle.std.proofs.lemmas.Option.{none-some}
use Rattle.std.proofs.lemmas.List.Elements.{Contains-append_left, Contains-append_right, Contains-append_cases}
use Rattle.klp_timeline.specs.declared.moment.Moment.{Moment}
use Rattle.klp_timeline.specs.declared.moment.Stay.{Stay}
use Rattle.klp_timeline.specs.declared.moment.View.{View}
use Rattle.klp_timeline.specs.declared.moment.Fact.{Fact}
use Rattle.klp_timeline.specs.declared.moment.Sleep.{Sleep}
use Rattle.klp_timeline.specs.declared.moment.Sleepers.{Sleepers}
use Rattle.klp_timeline.specs.declared.moment.Said.{Said}
use Rattle.klp_timeline.specs.declared.moment.Said.TheVariants.{Did, Slept}
use Rattle.klp_timeline.specs.declared.moment.Sentence.{Sentence}
use Rattle.klp_timeline.specs.Stays.{is_in_stay, stay_at, until, sleep_of, sleeps_begun}
use Rattle.klp_timeline.specs.Facts.{facts}
use Rattle.klp_timeline.specs.Sentences.{did, tasks_alike, slept, slept_of, said_of, sentences_from, sentences_of}
use Rattle.klp_timeline.specs.Telling.{seen_after, facts_at, Spans, IsShown, IsQuiet, IsAllShown, IsEachFactShown, AreSeen, IsTrueOf, IsAllTrue}
use Rattle.klp_timeline.proofs.AmongLemmas.{none_among, first_among, first_or_later, image_among, image_of}
use Rattle.klp_timeline.proofs.StayLemmas.{seen_is, is_seen_of, Lasts, until_lasts, until_true}
use Rattle.klp_timeline.proofs.AlikeLemmas.{IsSlept, all_slept, task_alike, slept_of_one}

not_both : false ≡ true → ⊥
not_both e = cc

-- the stays that begin with a line
abbrev begun_with : View → ℕ → Moment → List Moment → List Sleep
begun_with before line moment rest = sleeps_begun 0 before.stays moment.view.stays line rest

-- what is said of a line is said of the run
of_sleepers : (before : View) (line : ℕ) (moment : Moment) (rest : List Moment) (sentence : Sentence)
    → Contains (slept_of line (begun_with before line moment rest)) sentence → Contains (sentences_from before line (moment ∷ rest)) sentence
of_sleepers before line moment rest sentence among =
    Contains-append_left (said_of before line moment rest) (sentences_from moment.view (suc line) rest) sentence
    (Contains-append_right (map (did line) (facts before moment)) (slept_of line (begun_with before line moment rest)) sentence among)

of_later : (before : View) (line : ℕ) (moment : Moment) (rest : List Moment) (sentence : Sentence)
    → Contains (sentences_from moment.view (suc line) rest) sentence → Contains (sentences_from before line (moment ∷ rest)) sentence
of_later before line moment rest sentence among = Contains-append_right (said_of before line moment rest) (sentences_from moment.view (suc line) rest) sentence among

-- the stay that begins with a line
abbrev sleep_from : ℕ → Stay → ℕ → List Moment → Sleep
sleep_from task stay line rest = record { task = task; stay = stay; to = until task stay line rest }

first_of_all : (stay : Stay) (others : List Sleep) (sleep : Sleep) (seen : Bool) → seen ≡ false
    → Contains (cond seen [] (sleep ∷ []) ++ others) sleep
first_of_all stay others sleep true e = absurd (not_both (sym e))
first_of_all stay others sleep false e = first_among sleep others

begins_here : (first task at : ℕ) (before stays : List (Option Stay)) (line : ℕ) (rest : List Moment) (stay : Stay) → at ≡ first + task
    → slice_index_or stays task None ≡ Some stay → is_in_stay stay (stay_at before at) ≡ false
    → Contains (sleeps_begun first before stays line rest) (sleep_from at stay line rest)
begins_here first task at before [] line rest stay same e new = absurd (none-some stay e)
begins_here first zero at before (own ∷ stays) line rest stay same e new =
    subst (λ o. Contains (sleep_of first (stay_at before first) o line rest ++ sleeps_begun (suc first) before stays line rest) (sleep_from at stay line rest)) (sym e)
    (subst (λ n. Contains (cond (is_in_stay stay (stay_at before n)) [] (sleep_from n stay line rest ∷ []) ++ sleeps_begun (suc first) before stays line rest) (sleep_from at stay line rest)) here
    (first_of_all stay (sleeps_begun (suc first) before stays line rest) (sleep_from at stay line rest) (is_in_stay stay (stay_at before at)) new))
  where
    here : at ≡ first
    here = omega arith
begins_here first (suc task) at before (own ∷ stays) line rest stay same e new =
    Contains-append_right (sleep_of first (stay_at before first) own line rest) (sleeps_begun (suc first) before stays line rest) (sleep_from at stay line rest)
    (begins_here (suc first) task at before stays line rest stay next e new)
  where
    next : at ≡ suc first + task
    next = omega arith

begins_shown : (before : View) (line : ℕ) (moment : Moment) (rest : List Moment) (index task : ℕ) (stay : Stay) → stay_at moment.view.stays task ≡ Some stay
    → is_in_stay stay (stay_at before.stays task) ≡ false → Lasts task stay rest index → IsShown (sentences_from before line (moment ∷ rest)) task stay (line + index)
begins_shown before line moment rest index task stay e new lasts = by (all_slept line (begun_with before line moment rest) (sleep_from task stay line rest) (begins_here 0 task task before.stays moment.view.stays line rest stay own e new))
  where
    own : task ≡ 0 + task
    own = omega arith

    by : IsSlept line (begun_with before line moment rest) (slept_of line (begun_with before line moment rest)) (sleep_from task stay line rest)
        → IsShown (sentences_from before line (moment ∷ rest)) task stay (line + index)
    by found = record {
      from = line;
      sleepers = record { stay = found.own.stay; tasks = tasks_alike found.own (begun_with before line moment rest); to = found.own.to };
      among = of_sleepers before line moment rest (slept line found.own (begun_with before line moment rest)) found.among;
      names = found.names;
      stay_is = found.stay_is;
      spans = record {
        begun = omega arith;
        lasts = subst (λ to. IfSome to (λ last. line + index ≤ last)) (sym found.to_is) (until_lasts task stay line rest index lasts);
      };
    }

later_shown : (before : View) (line : ℕ) (moment : Moment) (rest : List Moment) (index task : ℕ) (stay : Stay)
    → IsShown (sentences_from moment.view (suc line) rest) task stay (suc line + index) → IsShown (sentences_from before line (moment ∷ rest)) task stay (line + suc index)
later_shown before line moment rest index task stay shown = record {
  from = shown.from;
  sleepers = shown.sleepers;
  among = of_later before line moment rest (record { line = shown.from; said = Slept shown.sleepers }) shown.among;
  names = shown.names;
  stay_is = shown.stay_is;
  spans = subst (Spans shown.from shown.sleepers) same shown.spans;
}
  where
    same : suc line + index ≡ line + suc index
    same = omega arith

-- a task's stay is told, or it is an earlier one
abbrev IsShownOr : View → ℕ → List Moment → ℕ → ℕ → Stay → Type 0
IsShownOr before line run index task stay =
    IsShown (sentences_from before line run) task stay (line + index) ⊎ ((is_in_stay stay (stay_at before.stays task) ≡ true) × Lasts task stay run (suc index))

all_shown : (before : View) (line : ℕ) (run : List Moment) (index task : ℕ) (stay : Stay) → seen_after run index task ≡ Some stay
    → IsShownOr before line run index task stay
all_shown before line [] index task stay e = absurd (none-some stay e)
all_shown before line (moment ∷ rest) zero task stay e = by (is_in_stay stay (stay_at before.stays task)) refl
  where
    by : (b : Bool) → is_in_stay stay (stay_at before.stays task) ≡ b → IsShownOr before line (moment ∷ rest) zero task stay
    by true is = inr (is, (is_seen_of stay (stay_at moment.view.stays task) e, tt))
    by false is = inl (begins_shown before line moment rest zero task stay e is tt)
all_shown before line (moment ∷ rest) (suc index) task stay e = by (all_shown moment.view (suc line) rest index task stay e)
  where
    held : (b : Bool) → is_in_stay stay (stay_at before.stays task) ≡ b → is_in_stay stay (stay_at moment.view.stays task) ≡ true → Lasts task stay rest (suc index)
        → IsShownOr before line (moment ∷ rest) (suc index) task stay
    held true is seen lasts = inr (is, (seen, lasts))
    held false is seen lasts = inl (begins_shown before line moment rest (suc index) task stay (seen_is stay (stay_at moment.view.stays task) seen) is lasts)

    by : IsShownOr moment.view (suc line) rest index task stay → IsShownOr before line (moment ∷ rest) (suc index) task stay
    by (inl shown) = inl (later_shown before line moment rest index task stay shown)
    by (inr seen) = held (is_in_stay stay (stay_at before.stays task)) refl seen.0 seen.1

pub no_sleeper_left_out : (opening : View) (run : List Moment) → IsQuiet opening → IsAllShown opening run
no_sleeper_left_out opening run quiet index task stay e = by (all_shown opening 1 run index task stay e)
  where
    same : 1 + index ≡ suc index
    same = omega arith

    by : IsShownOr opening 1 run index task stay → IsShown (sentences_of opening run) task stay (suc index)
    by (inl shown) = subst (IsShown (sentences_of opening run) task stay) same shown
    by (inr seen) = absurd (not_both (subst (λ o. is_in_stay stay o ≡ true) (quiet task) seen.0))

fact_shown : (before : View) (line : ℕ) (run : List Moment) (index : ℕ) (fact : Fact) → Contains (facts_at before run index) fact
    → Contains (sentences_from before line run) (did (line + index) fact)
fact_shown before line [] index fact among = absurd (none_among fact among)
fact_shown before line (moment ∷ rest) zero fact among =
    subst (λ n. Contains (sentences_from before line (moment ∷ rest)) (did n fact)) same
    (Contains-append_left (said_of before line moment rest) (sentences_from moment.view (suc line) rest) (did line fact)
    (Contains-append_left (map (did line) (facts before moment)) (slept_of line (begun_with before line moment rest)) (did line fact)
    (image_among (did line) (facts before moment) fact among)))
  where
    same : line ≡ line + zero
    same = omega arith
fact_shown before line (moment ∷ rest) (suc index) fact among =
    subst (λ n. Contains (sentences_from before line (moment ∷ rest)) (did n fact)) same
    (of_later before line moment rest (did (suc line + index) fact) (fact_shown moment.view (suc line) rest index fact among))
  where
    same : suc line + index ≡ line + suc index
    same = omega arith

pub no_fact_left_out : (opening : View) (run : List Moment) → IsEachFactShown opening run
no_fact_left_out opening run index fact among = subst (λ n. Contains (sentences_of opening run) (did n fact)) same (fact_shown opening 1 run index fact among)
  where
    same : 1 + index ≡ suc index
    same = omega arith

-- a stay that begins with a line
record IsBegun (first : ℕ) (stays : List (Option Stay)) (line : ℕ) (rest : List Moment) (sleep : Sleep) : Type 0 where
  pub task : ℕ
  pub task_is : sleep.task ≡ first + task
  pub seen : slice_index_or stays task None ≡ Some sleep.stay
  pub to_is : sleep.to ≡ until sleep.task sleep.stay line rest

next_begun : (first : ℕ) (own : Option Stay) (stays : List (Option Stay)) (line : ℕ) (rest : List Moment) (sleep : Sleep)
    → IsBegun (suc first) stays line rest sleep → IsBegun first (own ∷ stays) line rest sleep
next_begun first own stays line rest sleep begun = record { task = suc begun.task; task_is = omega (arith, begun.task_is); seen = begun.seen; to_is = begun.to_is }

this_begun : (first : ℕ) (stay : Stay) (stays : List (Option Stay)) (line : ℕ) (rest : List Moment) (sleep : Sleep)
    → sleep_from first stay line rest ≡ sleep → IsBegun first (Some stay ∷ stays) line rest sleep
this_begun first stay stays line rest sleep same =
    subst (IsBegun first (Some stay ∷ stays) line rest) same (record { task = 0; task_is = omega arith; seen = refl; to_is = refl })

own_or_later : (first : ℕ) (stay : Stay) (stays : List (Option Stay)) (line : ℕ) (rest : List Moment) (sleep : Sleep) (more : List Sleep) (seen : Bool)
    → (Contains more sleep → IsBegun (suc first) stays line rest sleep)
    → Contains (cond seen [] (sleep_from first stay line rest ∷ []) ++ more) sleep → IsBegun first (Some stay ∷ stays) line rest sleep
own_or_later first stay stays line rest sleep more true later among = next_begun first (Some stay) stays line rest sleep (later among)
own_or_later first stay stays line rest sleep more false later among = elim (first_or_later (sleep_from first stay line rest) more sleep among) [
  | inl own ↦ this_begun first stay stays line rest sleep own
  | inr others ↦ next_begun first (Some stay) stays line rest sleep (later others)
]

begun_of : (first : ℕ) (before stays : List (Option Stay)) (line : ℕ) (rest : List Moment) (sleep : Sleep)
    → Contains (sleeps_begun first before stays line rest) sleep → IsBegun first stays line rest sleep
begun_of first before [] line rest sleep among = absurd (none_among sleep among)
begun_of first before (None ∷ stays) line rest sleep among = next_begun first None stays line rest sleep (begun_of (suc first) before stays line rest sleep among)
begun_of first before (Some stay ∷ stays) line rest sleep among =
    own_or_later first stay stays line rest sleep (sleeps_begun (suc first) before stays line rest) (is_in_stay stay (stay_at before first))
    (begun_of (suc first) before stays line rest sleep) among

-- what a sentence says of these lines, of which the first has this number
record IsFactFrom (before : View) (line : ℕ) (run : List Moment) (at : ℕ) (fact : Fact) : Type 0 where
  pub index : ℕ
  pub line_is : at ≡ line + index
  pub among : Contains (facts_at before run index) fact

record AreSeenFrom (line : ℕ) (run : List Moment) (from : ℕ) (sleepers : Sleepers) : Type 0 where
  pub begun : line ≤ from
  pub seen : (task index : ℕ) → Contains sleepers.tasks task → index < length run → Spans from sleepers (line + index)
      → seen_after run index task ≡ Some sleepers.stay

abbrev IsTrueFrom : View → ℕ → List Moment → ℕ → Said → Type 0
IsTrueFrom before line run at (Did fact) = IsFactFrom before line run at fact
IsTrueFrom before line run at (Slept sleepers) = AreSeenFrom line run at sleepers

begun_seen : (line : ℕ) (moment : Moment) (rest : List Moment) (sleep : Sleep) → IsBegun 0 moment.view.stays line rest sleep
    → (index : ℕ) → index < suc (length rest) → IfSome sleep.to (λ to. line + index ≤ to) → seen_after (moment ∷ rest) index sleep.task ≡ Some sleep.stay
begun_seen line moment rest sleep begun zero short within = subst (λ task. stay_at moment.view.stays task ≡ Some sleep.stay) number begun.seen
  where
    number : begun.task ≡ sleep.task
    number = omega (arith, begun.task_is)
begun_seen line moment rest sleep begun (suc index) short within =
    until_true sleep.task sleep.stay line rest index shorter (subst (λ to. IfSome to (λ last. line + suc index ≤ last)) begun.to_is within)
  where
    shorter : index < length rest
    shorter = omega arith

slept_true : (before : View) (line : ℕ) (moment : Moment) (rest : List Moment) (own : Sleep)
    → AreSeenFrom line (moment ∷ rest) line (record { stay = own.stay; tasks = tasks_alike own (begun_with before line moment rest); to = own.to })
slept_true before line moment rest own = record { begun = omega arith; seen = each }
  where
    each : (task index : ℕ) → Contains (tasks_alike own (begun_with before line moment rest)) task → index < suc (length rest)
        → Spans line (record { stay = own.stay; tasks = tasks_alike own (begun_with before line moment rest); to = own.to }) (line + index)
        → seen_after (moment ∷ rest) index task ≡ Some own.stay
    each task index named short spans =
        (let found = task_alike own (begun_with before line moment rest) task named in
        ap (seen_after (moment ∷ rest) index) (sym found.task_is)
        ∙ begun_seen line moment rest found.sleep (begun_of 0 before.stays moment.view.stays line rest found.sleep found.among) index short
        (subst (λ to. IfSome to (λ last. line + index ≤ last)) (sym found.to_is) spans.lasts)
        ∙ ap Some found.stay_is)

later_true : (before : View) (line : ℕ) (moment : Moment) (rest : List Moment) (at : ℕ) (said : Said)
    → IsTrueFrom moment.view (suc line) rest at said → IsTrueFrom before line (moment ∷ rest) at said
later_true before line moment rest at (Did fact) later = record { index = suc later.index; line_is = omega (arith, later.line_is); among = later.among }
later_true before line moment rest at (Slept sleepers) later = record { begun = omega (arith, later.begun); seen = each }
  where
    early : suc line ≤ at → at ≤ line + zero → ⊥
    early from to = omega arith

    each : (task index : ℕ) → Contains sleepers.tasks task → index < suc (length rest) → Spans at sleepers (line + index)
        → seen_after (moment ∷ rest) index task ≡ Some sleepers.stay
    each task zero named short spans = absurd (early later.begun spans.begun)
    each task (suc index) named short spans = later.seen task index named shorter (subst (Spans at sleepers) same spans)
      where
        shorter : index < length rest
        shorter = omega arith

        same : line + suc index ≡ suc line + index
        same = omega arith

all_true : (before : View) (line : ℕ) (run : List Moment) (sentence : Sentence) → Contains (sentences_from before line run) sentence
    → IsTrueFrom before line run sentence.line sentence.said
all_true before line [] sentence among = absurd (none_among sentence among)
all_true before line (moment ∷ rest) sentence among =
    elim (Contains-append_cases (said_of before line moment rest) (sentences_from moment.view (suc line) rest) sentence among) [
      | inl here ↦ elim (Contains-append_cases (map (did line) (facts before moment)) (slept_of line (begun_with before line moment rest)) sentence here) [
        | inl done ↦ of_fact done
        | inr sleeping ↦ of_sleepers_here sleeping
      ]
      | inr later ↦ later_true before line moment rest sentence.line sentence.said (all_true moment.view (suc line) rest sentence later)
    ]
  where
    number : line ≡ line + zero
    number = omega arith

    of_fact : Contains (map (did line) (facts before moment)) sentence → IsTrueFrom before line (moment ∷ rest) sentence.line sentence.said
    of_fact done =
        (let found = image_of (did line) (facts before moment) sentence done in
        subst (λ (s : Sentence). IsTrueFrom before line (moment ∷ rest) s.line s.said) found.is
        (record { index = 0; line_is = number; among = found.among }))

    of_sleepers_here : Contains (slept_of line (begun_with before line moment rest)) sentence → IsTrueFrom before line (moment ∷ rest) sentence.line sentence.said
    of_sleepers_here sleeping =
        (let found = slept_of_one line (begun_with before line moment rest) [] (begun_with before line moment rest) sentence sleeping in
        subst (λ (s : Sentence). IsTrueFrom before line (moment ∷ rest) s.line s.said) found.is (slept_true before line moment rest found.own))

from_first : (opening : View) (run : List Moment) (at : ℕ) (said : Said) → IsTrueFrom opening 1 run at said → IsTrueOf opening run at said
from_first opening run at (Did fact) is = record { index = is.index; line_is = omega (arith, is.line_is); among = is.among }
from_first opening run at (Slept sleepers) are = each
  where
    each : AreSeen run at sleepers
    each task index named short spans = are.seen task index named short (subst (Spans at sleepers) same spans)
      where
        same : suc index ≡ 1 + index
        same = omega arith

pub none_made_up : (opening : View) (run : List Moment) → IsAllTrue opening run
none_made_up opening run sentence among = from_first opening run sentence.line sentence.said (all_true opening 1 run sentence among)
