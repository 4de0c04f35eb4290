-- One line that is answered by itself.
use Rattle.std.proofs.Common.{◌≡◌, ℕ, true, false, List, [], ◌++◌, refl, sym, ap, subst, ◌∙◌, append-nil, arith, Ok, Err}
use Rattle.std.specs.Io.KnownBytes.{Appends}
use Rattle.klp_core.specs.Journaled.{Journaled}
use Rattle.klp_console_io.specs.declared.sink.Failed.{Failed}
use Rattle.klp_console_io.specs.Gathered.{Gathered}
use Rattle.klp_console_io.specs.Written.{Written}
use Rattle.klp_console_io.specs.Says.{Says}
use Rattle.klp_console_commands.specs.Lines.{request_of}
use Rattle.klp_console.specs.declared.outcome.LineOutcome.{LineOutcome}
use Rattle.klp_console.specs.Outcomes.{is_refusal, IsOutcome}
use Rattle.klp_console.specs.Answered.{Answer, IsAnswered, names_in}
use Rattle.klp_console.specs.Said.{AnswersLine}
use Rattle.klp_console.proofs.SaidLemmas.{goes, fails}

-- an answer that is said and written by itself is all that the sink took
pub sent_alone : (text : List ℕ) (start end : Gathered × Written) → Says start end (text ++ []) → start.0.bytes ≡ [] → start.0.has_failed ≡ false → end.0.has_failed ≡ false → end.0.bytes ≡ []
    → Appends start.1.taken end.1.taken text
sent_alone text start end said empty still calm none =
    let went = goes start end (text ++ []) said still calm in
    let gone : text ≡ went.gone =
    sym (append-nil text) ∙ sym (ap (λ (bytes : List ℕ). bytes ++ (text ++ [])) empty) ∙ went.cut ∙ ap (λ (rest : List ℕ). went.gone ++ rest) none ∙ append-nil went.gone in
    subst (λ t. Appends start.1.taken end.1.taken t) (sym gone) went.written

-- where nothing was gathered before and nothing is afterwards, all of the answer is written
pub sent_whole : (before after : Journaled) (line : List ℕ) (answer : Answer) (start end : Gathered × Written) (outcome : LineOutcome) → IsAnswered before after line answer
    → is_refusal outcome ≡ answer.is_refused → IsOutcome before after (request_of (names_in before) line) outcome
    → Says start end (answer.text ++ []) → start.0.bytes ≡ [] → start.0.has_failed ≡ false → end.0.has_failed ≡ false → end.0.bytes ≡ []
    → AnswersLine before after line start.1 end.1 (Ok outcome)
sent_whole before after line answer start end outcome answered refused became said empty still calm none =
    let went = goes start end (answer.text ++ []) said still calm in
    record { answer = answer; answered = answered; sent = (refused, sent_alone answer.text start end said empty still calm none, went.well, became) }

pub sent_in_part : (before after : Journaled) (line : List ℕ) (answer : Answer) (start end : Gathered × Written) (failed : Failed) → IsAnswered before after line answer
    → Says start end (answer.text ++ []) → start.0.bytes ≡ [] → start.0.has_failed ≡ false → end.0.has_failed ≡ true
    → AnswersLine before after line start.1 end.1 (Err failed)
sent_in_part before after line answer start end failed answered said empty still has_failed =
    let text = answer.text in
    let went = fails start end (text ++ []) said still has_failed in
    record {
      answer = answer;
      answered = answered;
      sent = record {
        early = [];
        last = answer;
        sent = refl;
        gone = went.gone;
        rest = went.rest;
        cut = sym (ap (λ (bytes : List ℕ). bytes ++ (text ++ [])) empty) ∙ went.cut;
        written = went.written;
        missing = went.missing;
        whole = omega arith;
        blame = went.blame;
      };
    }
