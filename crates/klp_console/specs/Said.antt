-- A console while it serves: what its lines did so far, and which answers were said.
use Rattle.std.specs.Prelude.{◌≡◌, ℕ, ◌+◌, ◌<◌, ◌≤◌, Bool, true, false, List, [], ◌∷◌, ◌++◌, length, count_by, Result, Ok, Err}
use Rattle.std.specs.Io.KnownBytes.{Appends}
use Rattle.klp_core.specs.Journaled.{Journaled}
use Rattle.klp_console_io.specs.declared.marks.Mark.{Mark}
use Rattle.klp_console_io.specs.declared.sink.Failed.{Failed}
use Rattle.klp_console_io.specs.Gathered.{Gathered}
use Rattle.klp_console_io.specs.Written.{Written}
use Rattle.klp_console_io.specs.Says.{IsWell, IsToBlame, Says}
use Rattle.klp_types.specs.declared.limits.TheConstants.{MAX_CONSOLE_LINE}
use Rattle.klp_console.specs.declared.served.Served.{Served}
use Rattle.klp_console.specs.declared.served.ServeFault.{ServeFault}
use Rattle.klp_console.specs.declared.served.ServeFault.TheVariants.{Read, Write, LineTooLong}
use Rattle.klp_console_commands.specs.Lines.{request_of}
use Rattle.klp_console.specs.declared.outcome.LineOutcome.{LineOutcome}
use Rattle.klp_console.specs.Outcomes.{is_refusal, IsOutcome}
use Rattle.klp_console.specs.Answered.{Answer, IsAnswered, names_in}
use Rattle.klp_console.specs.Back.{AreMarked}
use Rattle.klp_console.specs.Lines.{AreAnswered, are_short, texts_of}

-- the manager, how many lines were served, what was gathered and written, and the marks of gathered lines
pub record Serving : Type 0 where
  pub manager : Journaled
  pub served : Served
  pub said : Gathered × Written
  pub marks : List Mark

-- a serving with this manager, these counts, these texts and these marks
abbrev pub serving_of : Journaled → Served → Gathered → Written → List Mark → Serving
serving_of manager served gathered written marks = record { manager = manager; served = served; said = (gathered, written); marks = marks }

-- an answer of this kind was said, and `refused` is whether it was a refusal
abbrev pub IsSaid : (Answer → Type 0) → Gathered × Written → Gathered × Written → Bool → Type 0
IsSaid is_answer before after refused = (text : List ℕ) × is_answer (record { text = text; is_refused = refused }) × Says before after text

-- Lines were answered in order and counted, since a moment at which nothing was gathered. The first bytes of their
-- answers were written, and the rest is gathered.
pub record Serves (before after : Serving) (lines : List (List ℕ)) : Type 0 where
  pub answers : List Answer
  pub answered : AreAnswered before.manager after.manager lines answers
  pub counted : after.served.lines ≡ before.served.lines + length lines
  pub refused : after.served.refused ≡ before.served.refused + count_by (λ (a : Answer). a.is_refused) answers
  pub short : are_short lines ≡ true
  pub gone : List ℕ
  pub cut : texts_of answers ≡ gone ++ after.said.0.bytes
  pub written : Appends before.said.1.taken after.said.1.taken gone
  pub well : IsWell before.said.1 after.said.1
  pub still : after.said.0.has_failed ≡ false

-- of the answered lines the last ones are gathered, each with its mark, and the answers to the lines before are written
pub record HasMarks (before after : Serving) (lines : List (List ℕ)) (answers : List Answer) (written : ℕ) : Type 0 where
  pub early : List (List ℕ)
  pub held : List (List ℕ)
  pub lines_are : lines ≡ early ++ held
  pub early_answers : List Answer
  pub held_answers : List Answer
  pub answers_are : answers ≡ early_answers ++ held_answers
  pub start : Journaled
  pub answered : AreAnswered before.manager start early early_answers
  pub all_written : length (texts_of early_answers) ≤ written
  pub marked : AreMarked after.manager after.manager written (length (texts_of early_answers)) start held held_answers after.marks

-- lines were done, perhaps ahead of their answers, and those whose answers aren't written can be taken back
pub record Ahead (before after : Serving) (lines : List (List ℕ)) : Type 0 where
  pub serves : Serves before after lines
  pub has_marks : HasMarks before after lines serves.answers (length serves.gone)

-- The sink is to blame for the missing part of these answers. It took the first bytes, `gone`, which have the answers
-- before the last one whole. So the last answer is the one that was cut off.
pub record Stops (before after : Written) (answers : List Answer) : Type 0 where
  pub early : List Answer
  pub last : Answer
  pub sent : answers ≡ early ++ last ∷ []
  pub gone : List ℕ
  pub rest : List ℕ
  pub cut : texts_of answers ≡ gone ++ rest
  pub written : Appends before.taken after.taken gone
  pub missing : 0 < length rest
  pub whole : length (texts_of early) ≤ length gone
  pub blame : IsToBlame before after

-- the whole answer was written, and this is the outcome; or the sink is to blame for the missing part of the answer
abbrev pub IsSent : Journaled → Journaled → List ℕ → Written → Written → Answer → Result LineOutcome Failed → Type 0
IsSent before after line written left answer (Ok outcome) =
    (is_refusal outcome ≡ answer.is_refused) × Appends written.taken left.taken answer.text × IsWell written left
    × IsOutcome before after (request_of (names_in before) line) outcome
IsSent before after line written left answer (Err failed) = Stops written left (answer ∷ [])

-- one line was answered, and its answer was written as far as the result says
pub record AnswersLine (before after : Journaled) (line : List ℕ) (written left : Written) (result : Result LineOutcome Failed) : Type 0 where
  pub answer : Answer
  pub answered : IsAnswered before after line answer
  pub sent : IsSent before after line written left answer result

-- the sink failed: of these lines those are done up to the one whose answer was cut off, and no later one
pub record IsCut (before after : Serving) (lines : List (List ℕ)) : Type 0 where
  pub done : List (List ℕ)
  pub later : List (List ℕ)
  pub lines_are : lines ≡ done ++ later
  pub answers : List Answer
  pub answered : AreAnswered before.manager after.manager done answers
  pub short : are_short done ≡ true
  pub stops : Stops before.said.1 after.said.1 answers

-- lines were done ahead, or the sink failed in one of their answers
abbrev pub Comes : Serving → Serving → List (List ℕ) → Type 0
Comes before after lines =
    (after.said.0.has_failed ≡ false → Ahead before after lines) × (after.said.0.has_failed ≡ true → IsCut before after lines)

-- What a piece came to, which is cut into lines and a rest that belongs to the next line. Either all lines were done,
-- or those before one that is too long, or the sink failed in an answer.
abbrev pub Hears : Serving → Serving → List (List ℕ) → List ℕ → Result Unit ServeFault → Type 0
Hears before after pieces rest (Ok unit) = (lines : List (List ℕ)) × (pieces ≡ lines ++ rest ∷ []) × Ahead before after lines
Hears before after pieces rest (Err LineTooLong) =
    (lines : List (List ℕ)) × (long : List ℕ) × (more : List (List ℕ)) × (pieces ≡ lines ++ long ∷ more) × (MAX_CONSOLE_LINE < length long) × Ahead before after lines
Hears before after pieces rest (Err Write) =
    (lines : List (List ℕ)) × (next : List ℕ) × (more : List (List ℕ)) × (pieces ≡ lines ++ next ∷ more) × IsCut before after lines × (after.said.0.has_failed ≡ true)
Hears before after pieces rest (Err Read) = ⊥

-- all that was gathered is written, unless the sink failed
abbrev pub IsWritten : Gathered → List Mark → Result Unit ServeFault → Type 0
IsWritten gathered marks (Err Write) = Unit {0}
IsWritten gathered marks result = (gathered.bytes ≡ []) × (marks ≡ [])
