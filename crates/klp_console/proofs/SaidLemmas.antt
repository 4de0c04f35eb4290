-- Lines that are served one after another, and texts that are said.
use Rattle.std.proofs.Common.{◌≡◌, ℕ, ◌+◌, ◌-◌, ◌<◌, ◌≤◌, ◌⊎◌, inl, inr, true, false, ◌==◌, cond, List, [], ◌∷◌, ◌++◌, length, refl, sym, ap, ◌∙◌, subst, append_assoc, append-nil, arith, take, drop, take-append-drop}
use Rattle.std.proofs.lemmas.Bool.{and_from, both_ways}
use Rattle.std.proofs.lemmas.List.{length-append, take-append-le}
use Rattle.std.proofs.Math.Seq.{take-length}
use Rattle.std.proofs.lemmas.List.Folds.{list_all-append}
use Rattle.std.proofs.lemmas.List.Sums.{sum_by-append}
use Rattle.std.proofs.lemmas.List.Splits.{length-slice_split}
use Rattle.std.specs.Prelude.{count_by}
use Rattle.std.specs.Io.KnownBytes.{Appends}
use Rattle.std.proofs.KnownBytes.{Appends-nil, Appends-trans}
use Rattle.klp_core.specs.Journaled.{Journaled}
use Rattle.klp_console_io.specs.Gathered.{Gathered}
use Rattle.klp_console_io.specs.Written.{Written}
use Rattle.klp_console_io.specs.Says.{IsWell, IsToBlame, Spoken, Says, Speaks}
use Rattle.klp_console_io.specs.Lines.{is_line_feed, lines_and_rest}
use Rattle.klp_console.specs.Answered.{Answer}
use Rattle.klp_console.specs.Lines.{AreAnswered, are_short, is_short, texts_of, whole}
use Rattle.klp_console.specs.Said.{Serving, Serves, Stops}

pub answered_on : (a b c : Journaled) (lines others : List (List ℕ)) (answers more : List Answer) → AreAnswered a b lines answers → AreAnswered b c others more
    → AreAnswered a c (lines ++ others) (answers ++ more)
answered_on a b c [] others [] more same next = subst (λ m. AreAnswered m c others more) same next
answered_on a b c [] others (answer ∷ answers) more first next = absurd first
answered_on a b c (line ∷ lines) others [] more first next = absurd first
answered_on a b c (line ∷ lines) others (answer ∷ answers) more first next =
    (first.0, first.1, answered_on first.0 b c lines others answers more first.2 next)

pub texts_on : (answers more : List Answer) → texts_of (answers ++ more) ≡ texts_of answers ++ texts_of more
texts_on [] more = refl
texts_on (answer ∷ answers) more = ap (λ text. answer.text ++ text) (texts_on answers more) ∙ sym (append_assoc answer.text (texts_of answers) (texts_of more))

-- how many of some answers are refusals
abbrev pub refusals : List Answer → ℕ
refusals answers = count_by (λ (a : Answer). a.is_refused) answers

pub refusals_on : (answers more : List Answer) → refusals (answers ++ more) ≡ refusals answers + refusals more
refusals_on answers more = sum_by-append (λ (a : Answer). cond a.is_refused 1 0) answers more

-- where nothing is gathered all is written
pub all_gone : (gone gathered text : List ℕ) → gathered ≡ [] → text ≡ gone ++ gathered → text ≡ gone
all_gone gone gathered text empty cut = cut ∙ ap (λ (rest : List ℕ). gone ++ rest) empty ∙ append-nil gone

abbrev pub serves_on : (a b c : Serving) (lines others : List (List ℕ)) → Serves a b lines → b.said.0.bytes ≡ [] → Serves b c others → Serves a c (lines ++ others)
serves_on a b c lines others first empty next = record {
  answers = first.answers ++ next.answers;
  answered = answered_on a.manager b.manager c.manager lines others first.answers next.answers first.answered next.answered;
  counted = omega (arith, next.counted, first.counted, length-append lines others);
  refused = omega (arith, next.refused, first.refused, refusals_on first.answers next.answers);
  short = list_all-append is_short lines others ∙ and_from (are_short lines) (are_short others) first.short next.short;
  gone = first.gone ++ next.gone;
  cut = texts_on first.answers next.answers ∙ ap (λ (t : List ℕ). t ++ texts_of next.answers) (all_gone first.gone b.said.0.bytes (texts_of first.answers) empty first.cut)
      ∙ ap (λ (t : List ℕ). first.gone ++ t) next.cut ∙ sym (append_assoc first.gone next.gone c.said.0.bytes);
  written = Appends-trans a.said.1.taken b.said.1.taken c.said.1.taken first.gone next.gone first.written next.written;
  well = (next.well.0 ∙ first.well.0, next.well.1 ∙ first.well.1);
  still = next.still;
}

-- no line is served
abbrev pub serves_none : (a : Serving) → a.said.0.bytes ≡ [] → a.said.0.has_failed ≡ false → Serves a a []
serves_none a empty still = record {
  answers = [];
  answered = refl;
  counted = omega arith;
  refused = omega arith;
  short = refl;
  gone = [];
  cut = sym empty;
  written = Appends-nil a.said.1.taken;
  well = (refl, refl);
  still = still;
}

first_of : (lines : List (List ℕ)) → 0 < length lines → (first : List ℕ) × (more : List (List ℕ)) × (lines ≡ first ∷ more)
first_of [] some = absurd (omega arith)
first_of (first ∷ more) some = (first, more, refl)

-- there is always a first line, be it an unfinished one
pub some_line : (bytes : List ℕ) → (first : List ℕ) × (more : List (List ℕ)) × (lines_and_rest bytes ≡ first ∷ more)
some_line bytes = first_of (lines_and_rest bytes) (omega (arith, length-slice_split is_line_feed bytes))

-- the lines so far, one more that is served, and what is still to be cut
pub one_more : (all : List (List ℕ)) (lines next rest : List (List ℕ)) (line : List ℕ) → all ≡ lines ++ next → next ≡ line ∷ rest → all ≡ (lines ++ line ∷ []) ++ rest
one_more all lines next rest line so_far heard = so_far ∙ ap (λ more. lines ++ more) heard ∙ sym (append_assoc lines (line ∷ []) rest)

spoken : (a b : Gathered × Written) (text : List ℕ) → Says a b text → a.0.has_failed ≡ false → Spoken a b text
unfolding Speaks
spoken a b text said still = said.speaks.1 still

-- a text was said and nothing failed: what isn't written of it is gathered
pub record Goes (a b : Gathered × Written) (text : List ℕ) : Type 0 where
  pub gone : List ℕ
  pub cut : a.0.bytes ++ text ≡ gone ++ b.0.bytes
  pub written : Appends a.1.taken b.1.taken gone
  pub well : IsWell a.1 b.1
  pub held : b.0.held ≡ a.0.held - length gone
  pub whole : (gone ≡ []) ⊎ (b.0.held ≡ 0)

pub goes : (a b : Gathered × Written) (text : List ℕ) → Says a b text → a.0.has_failed ≡ false → b.0.has_failed ≡ false → Goes a b text
goes a b text said still after =
    let now = spoken a b text said still in
    elim now.leaves [
      | inl calm ↦ record {
        gone = now.gone;
        cut = now.moves.cut ∙ ap (λ rest. now.gone ++ rest) (sym calm.1);
        written = now.moves.taken;
        well = calm.2;
        held = now.held;
        whole = now.whole after;
      }
      | inr blamed ↦ absurd (both_ways _ after blamed.0)
    ]

-- a text was said and the sink failed: it took a front of it
pub record Fails (a b : Gathered × Written) (text : List ℕ) : Type 0 where
  pub gone : List ℕ
  pub rest : List ℕ
  pub cut : a.0.bytes ++ text ≡ gone ++ rest
  pub written : Appends a.1.taken b.1.taken gone
  pub missing : 0 < length rest
  pub blame : IsToBlame a.1 b.1
  pub held : b.0.held ≡ a.0.held - length gone

pub fails : (a b : Gathered × Written) (text : List ℕ) → Says a b text → a.0.has_failed ≡ false → b.0.has_failed ≡ true → Fails a b text
fails a b text said still failed =
    let now = spoken a b text said still in
    elim now.leaves [
      | inl calm ↦ absurd (both_ways _ calm.0 failed)
      | inr blamed ↦ record { gone = now.gone; rest = now.rest; cut = now.moves.cut; written = now.moves.taken; missing = blamed.2; blame = blamed.1; held = now.held }
    ]

-- where nothing was wrong before, what is wrong after is
pub blame_on : (a b c : Written) → IsWell a b → IsToBlame b c → IsToBlame a c
blame_on a b c well (inl failed) = inl (failed.0 ∙ ap (λ n. n + 1) well.0, failed.1 ∙ well.1)
blame_on a b c well (inr stalled) = inr (stalled.0 ∙ well.0, stalled.1 ∙ ap (λ n. n + 1) well.1)

-- a last line that has a byte is a line
pub whole_line : (line : List ℕ) → (length line == 0) ≡ false → whole (line ∷ []) ≡ line ∷ []
whole_line [] some = absurd (both_ways true some refl)
whole_line (b ∷ bs) some = refl

-- what is held of a piece of text: no more than there was
pub held_falls : (a b : Gathered × Written) (text : List ℕ) → Says a b text → a.0.has_failed ≡ false → b.0.held ≤ a.0.held
held_falls a b text said still = omega (arith, (spoken a b text said still).held)

-- a front of text, where it is no longer than another front
pub front : (xs behind gone rest : List ℕ) → xs ++ behind ≡ gone ++ rest → length gone ≤ length xs → xs ≡ gone ++ drop (length gone) xs
front xs behind gone rest is within =
    let start : take (length gone) xs ≡ gone = sym (take-append-le (length gone) xs behind within) ∙ ap (take (length gone)) is ∙ take-append-le (length gone) gone rest (omega arith) ∙ take-length gone in
    sym (take-append-drop (length gone) xs) ∙ ap (λ (l : List ℕ). l ++ drop (length gone) xs) start

-- the sink stopped within the last of these answers
pub stops_within : (before after : Written) (early : List Answer) (last : Answer) (behind gone rest : List ℕ) → texts_of (early ++ last ∷ []) ++ behind ≡ gone ++ rest
    → length (texts_of early) ≤ length gone → length gone < length (texts_of (early ++ last ∷ [])) → Appends before.taken after.taken gone → IsToBlame before after
    → Stops before after (early ++ last ∷ [])
stops_within before after early last behind gone rest is whole within written blame =
    let text = texts_of (early ++ last ∷ []) in
    let cut = front text behind gone rest is (omega (arith, within)) in
    record {
      early = early;
      last = last;
      sent = refl;
      gone = gone;
      rest = drop (length gone) text;
      cut = cut;
      written = written;
      missing = omega (arith, within, ap length cut, length-append gone (drop (length gone) text));
      whole = whole;
      blame = blame;
    }
