-- What was read and served so far, and what serving comes to from there.
use Rattle.std.proofs.Common.{◌≡◌, ℕ, suc, ◌+◌, ◌<◌, ◌⊎◌, true, false, List, [], ◌∷◌, ◌++◌, length, inl, inr, refl, sym, ap, ◌∙◌, subst, append_assoc, append-nil, arith}
use Rattle.std.proofs.lemmas.Bool.{and_from}
use Rattle.std.proofs.lemmas.List.{length-append}
use Rattle.std.proofs.lemmas.List.Folds.{list_all-append}
use Rattle.std.specs.Prelude.{Ok, Err}
use Rattle.std.specs.Io.KnownBytes.{Appends, Consumes, Keeps, IsAtEnd}
use Rattle.std.proofs.KnownBytes.{Appends-trans, Consumes-nil, Consumes-trans, Consumes-kept}
use Rattle.klp_core.specs.Journaled.{Journaled}
use Rattle.klp_console_io.specs.Gathered.{Gathered}
use Rattle.klp_console_io.specs.Written.{Written}
use Rattle.klp_console_io.specs.Says.{IsWell}
use Rattle.klp_console_io.specs.Supply.{Supply}
use Rattle.klp_console_io.specs.Lines.{lines_and_rest}
use Rattle.klp_console.specs.declared.served.ServeFault.{ServeFault}
use Rattle.klp_console.specs.declared.served.ServeFault.TheVariants.{Read, Write, LineTooLong}
use Rattle.klp_console.specs.Answered.{Answer}
use Rattle.klp_console.specs.Lines.{AreAnswered, is_short, are_short, whole, lines_of, texts_of}
use Rattle.klp_console.specs.Said.{Serving, Serves, Stops, IsCut, Hears, IsWritten}
use Rattle.klp_console.specs.Served.{Console, Asks, Reads, Writes, AreFirst, HasReadFailed, HasLongLine, HasWriteFailed, IsServed, ComesTo}
use Rattle.klp_types.specs.declared.limits.TheConstants.{MAX_READS}
use Rattle.klp_console.proofs.SaidLemmas.{answered_on, texts_on, all_gone, serves_none, serves_on, blame_on}
use Rattle.klp_console.proofs.WithdrawnLemmas.{LeavesNone}

-- a piece behind what was read is cut with the rest that no line feed has ended
abbrev pub LinesAddUp : Type 0
LinesAddUp = (a b : List ℕ) (done : List (List ℕ)) (rest : List ℕ) → lines_and_rest a ≡ done ++ rest ∷ [] → lines_and_rest (a ++ b) ≡ done ++ lines_and_rest (rest ++ b)

-- these bytes were read, and their lines served
pub record SoFar (source now : Supply) (before after : Serving) (line : List ℕ) : Type 0 where
  pub bytes : List ℕ
  pub lines : List (List ℕ)
  pub read : Consumes source.left now.left bytes
  pub cut : lines_and_rest bytes ≡ lines ++ line ∷ []
  pub short : is_short line ≡ true
  pub serves : Serves before after lines
  pub no_failure : now.failures ≡ source.failures
  pub goes_on : now.has_ended ≡ source.has_ended

-- the pieces of all that was read, where the last read gave this piece
pub cut_on : LinesAddUp → (bytes piece : List ℕ) (lines pieces : List (List ℕ)) (line : List ℕ) → lines_and_rest bytes ≡ lines ++ line ∷ [] → lines_and_rest (line ++ piece) ≡ pieces
    → lines_and_rest (bytes ++ piece) ≡ lines ++ pieces
cut_on add_up bytes piece lines pieces line cut next = add_up bytes piece lines line cut ∙ ap (λ more. lines ++ more) next

pub so_far_on : LinesAddUp → (source now next : Supply) (a b c : Serving) (line new piece : List ℕ) → SoFar source now a b line → b.said.0.bytes ≡ [] → Consumes now.left next.left piece
    → next.failures ≡ now.failures → next.has_ended ≡ now.has_ended → is_short new ≡ true → Hears b c (lines_and_rest (line ++ piece)) new (Ok tt) → SoFar source next a c new
so_far_on lines_add_up source now next a b c line new piece so_far clear read same goes_on short heard = record {
  bytes = so_far.bytes ++ piece;
  lines = so_far.lines ++ heard.0;
  read = Consumes-trans source.left now.left next.left so_far.bytes piece so_far.read read;
  cut = cut_on lines_add_up so_far.bytes piece so_far.lines (heard.0 ++ new ∷ []) line so_far.cut heard.1 ∙ sym (append_assoc so_far.lines heard.0 (new ∷ []));
  short = short;
  serves = serves_on a b c so_far.lines heard.0 so_far.serves clear heard.2.serves;
  no_failure = same ∙ so_far.no_failure;
  goes_on = goes_on ∙ so_far.goes_on;
}

-- the last line needs no line feed
pub whole_on : (lines : List (List ℕ)) (line : List ℕ) → whole (lines ++ line ∷ []) ≡ lines ++ whole (line ∷ [])
whole_on [] line = refl
whole_on ([] ∷ []) line = refl
whole_on ([] ∷ next ∷ lines) line = ap (λ more. [] ∷ more) (whole_on (next ∷ lines) line)
whole_on ((b ∷ bs) ∷ lines) line = ap (λ more. (b ∷ bs) ∷ more) (whole_on lines line)

-- nothing is gathered and nothing has failed
abbrev pub start_of : Written → Gathered × Written
start_of written = (record { bytes = []; held = 0; has_failed = false }, written)

-- all that was said was written
all_written : (a b : Serving) (lines : List (List ℕ)) → (serves : Serves a b lines) → b.said.0.bytes ≡ [] → Appends a.said.1.taken b.said.1.taken (texts_of serves.answers)
all_written a b lines serves empty =
    subst (Appends a.said.1.taken b.said.1.taken) (sym (all_gone serves.gone b.said.0.bytes (texts_of serves.answers) empty serves.cut)) serves.written

-- the console before and after
abbrev pub console_of : Supply → Serving → Console
console_of supply moment = record { supply = supply; written = moment.said.1; manager = moment.manager }

-- nothing is served yet
abbrev pub start_at : Journaled → Written → Serving
start_at manager written = record { manager = manager; served = record { lines = 0; refused = 0 }; said = start_of written; marks = [] }

pub so_far_start : lines_and_rest [] ≡ [] ∷ [] → (source : Supply) (manager : Journaled) (written : Written)
    → SoFar source source (start_at manager written) (start_at manager written) []
so_far_start none source manager written = record {
  bytes = [];
  lines = [];
  read = Consumes-nil source.left;
  cut = none;
  short = refl;
  serves = serves_none (start_at manager written) refl refl;
  no_failure = refl;
  goes_on = refl;
}

writes_of : (source now : Supply) (a b : Serving) (lines : List (List ℕ)) → (serves : Serves a b lines) → b.said.0.bytes ≡ []
    → Writes (console_of source a) (console_of now b) serves.answers
writes_of source now a b lines serves empty = record { written = all_written a b lines serves empty; well = serves.well }

reads_of : (source : Supply) (a : Serving) (b : Console) (bytes : List ℕ) (lines : List (List ℕ)) (answers : List Answer) → LeavesNone a.manager
    → Consumes source.left b.supply.left bytes → Asks source b.supply → AreAnswered a.manager b.manager lines answers → are_short lines ≡ true
    → Reads (console_of source a) b bytes lines answers
reads_of source a b bytes lines answers none read asks answered short = record {
  read = read;
  asks = asks;
  answered = answered;
  withdrawn = none b.manager lines answers answered;
  short = short;
}

-- the sink failed in a later answer, where all before were written
stops_later : (written between after : Written) (first later : List Answer) → Appends written.taken between.taken (texts_of first) → IsWell written between → Stops between after later
    → Stops written after (first ++ later)
stops_later written between after first later all well stops = record {
  early = first ++ stops.early;
  last = stops.last;
  sent = ap (λ answers. first ++ answers) stops.sent ∙ sym (append_assoc first stops.early (stops.last ∷ []));
  gone = texts_of first ++ stops.gone;
  rest = stops.rest;
  cut = texts_on first later ∙ ap (λ text. texts_of first ++ text) stops.cut ∙ sym (append_assoc (texts_of first) stops.gone stops.rest);
  written = Appends-trans written.taken between.taken after.taken (texts_of first) stops.gone all stops.written;
  missing = stops.missing;
  whole = omega (
    arith,
    ap length (texts_on first stops.early),
    length-append (texts_of first) (texts_of stops.early),
    length-append (texts_of first) stops.gone,
    stops.whole,
  );
  blame = blame_on written between after well stops.blame;
}

-- no more can be read
pub read_failed : (source now next : Supply) (manager : Journaled) (written : Written) (b : Serving) (line : List ℕ) → LeavesNone manager → SoFar source now (start_at manager written) b line
    → b.said.0.bytes ≡ [] → Keeps now.left next.left → next.has_ended ≡ now.has_ended → Asks source next
    → (next.failures ≡ source.failures + 1) ⊎ ((next.failures ≡ source.failures) × (next.reads ≡ source.reads + MAX_READS))
    → HasReadFailed (console_of source (start_at manager written)) (console_of next b)
read_failed source now next manager written b line none so_far empty kept goes_on asks blame =
    let serves = so_far.serves in
    record {
      bytes = so_far.bytes;
      lines = so_far.lines;
      rest = line;
      answers = serves.answers;
      cut = so_far.cut;
      short = so_far.short;
      reads = reads_of source (start_at manager written) (console_of next b) so_far.bytes so_far.lines serves.answers none
          (Consumes-kept source.left now.left next.left so_far.bytes so_far.read kept) asks serves.answered serves.short;
      writes = writes_of source next (start_at manager written) b so_far.lines serves empty;
      goes_on = goes_on ∙ so_far.goes_on;
      blame = blame;
    }

-- a line of the last piece is too long
long_line : LinesAddUp → (source now next : Supply) (manager : Journaled) (written : Written) (b c : Serving) (line new piece : List ℕ)
    → LeavesNone manager → SoFar source now (start_at manager written) b line → b.said.0.bytes ≡ [] → Consumes now.left next.left piece → next.failures ≡ now.failures → Asks source next
    → Hears b c (lines_and_rest (line ++ piece)) new (Err LineTooLong) → c.said.0.bytes ≡ []
    → HasLongLine (console_of source (start_at manager written)) (console_of next c)
long_line lines_add_up source now next manager written b c line new piece none so_far clear read same asks heard empty =
    let serves = serves_on (start_at manager written) b c so_far.lines heard.0 so_far.serves clear heard.5.serves in
    record {
      bytes = so_far.bytes ++ piece;
      lines = so_far.lines ++ heard.0;
      long = heard.1;
      more = heard.2;
      answers = serves.answers;
      cut = cut_on lines_add_up so_far.bytes piece so_far.lines (heard.0 ++ heard.1 ∷ heard.2) line so_far.cut heard.3 ∙ sym (append_assoc so_far.lines heard.0 (heard.1 ∷ heard.2));
      too_long = heard.4;
      reads = reads_of source (start_at manager written) (console_of next c) (so_far.bytes ++ piece) (so_far.lines ++ heard.0) serves.answers none
          (Consumes-trans source.left now.left next.left so_far.bytes piece so_far.read read) asks serves.answered serves.short;
      writes = writes_of source next (start_at manager written) c (so_far.lines ++ heard.0) serves empty;
      no_failure = same ∙ so_far.no_failure;
    }

-- an answer was cut off, where all lines so far had theirs
cut_off : (source now next : Supply) (manager : Journaled) (written : Written) (b c : Serving) (lines : List (List ℕ)) (line bytes : List ℕ)
    → LeavesNone manager → (so_far : SoFar source now (start_at manager written) b line) → b.said.0.bytes ≡ [] → Consumes source.left next.left bytes
    → next.failures ≡ now.failures → Asks source next → (cut : IsCut b c lines) → AreFirst (console_of next c) (so_far.lines ++ cut.done) bytes
    → HasWriteFailed (console_of source (start_at manager written)) (console_of next c)
cut_off source now next manager written b c lines line bytes none so_far clear read same asks cut first =
    let start = start_at manager written in
    let serves = so_far.serves in
    let answers = serves.answers ++ cut.answers in
    record {
      bytes = bytes;
      lines = so_far.lines ++ cut.done;
      answers = answers;
      first = first;
      reads = reads_of source start (console_of next c) bytes (so_far.lines ++ cut.done) answers none read asks
          (answered_on manager b.manager c.manager so_far.lines cut.done serves.answers cut.answers serves.answered cut.answered)
          (list_all-append is_short so_far.lines cut.done ∙ and_from (are_short so_far.lines) (are_short cut.done) serves.short cut.short);
      stops = stops_later written b.said.1 c.said.1 serves.answers cut.answers (all_written start b so_far.lines serves clear) serves.well cut.stops;
      no_failure = same ∙ so_far.no_failure;
    }

-- where some lines are first and others stand behind them, a line stands behind the first
behind : (done later : List (List ℕ)) (next : List ℕ) (more : List (List ℕ)) → (l : List ℕ) × (ls : List (List ℕ)) × ((done ++ later) ++ next ∷ more ≡ done ++ l ∷ ls)
behind done [] next more = (next, more, ap (λ (l : List (List ℕ)). l ++ next ∷ more) (append-nil done))
behind done (l ∷ ls) next more = (l, ls ++ next ∷ more, append_assoc done (l ∷ ls) (next ∷ more))

-- the answer to a line of the last piece can't be written
write_failed : LinesAddUp → (source now next : Supply) (manager : Journaled) (written : Written) (b c : Serving) (line new piece : List ℕ)
    → LeavesNone manager → SoFar source now (start_at manager written) b line → b.said.0.bytes ≡ [] → Consumes now.left next.left piece → next.failures ≡ now.failures
    → Asks source next → Hears b c (lines_and_rest (line ++ piece)) new (Err Write)
    → HasWriteFailed (console_of source (start_at manager written)) (console_of next c)
write_failed lines_add_up source now next manager written b c line new piece none so_far clear read same asks heard =
    let cut = heard.4 in
    let rest = behind cut.done cut.later heard.1 heard.2 in
    let pieces = heard.3 ∙ ap (λ (l : List (List ℕ)). l ++ heard.1 ∷ heard.2) cut.lines_are ∙ rest.2 in
    cut_off source now next manager written b c heard.0 line (so_far.bytes ++ piece) none so_far clear
    (Consumes-trans source.left now.left next.left so_far.bytes piece so_far.read read) same asks cut (inl (
      rest.0,
      rest.1,
      cut_on lines_add_up so_far.bytes piece so_far.lines (cut.done ++ rest.0 ∷ rest.1) line so_far.cut pieces ∙ sym (append_assoc so_far.lines cut.done (rest.0 ∷ rest.1)),
    ))

-- the lines of all that was read
lines_on : (source now : Supply) (a b : Serving) (line : List ℕ) → (so_far : SoFar source now a b line) → so_far.lines ++ whole (line ∷ []) ≡ lines_of so_far.bytes
lines_on source now a b line so_far = sym (ap whole so_far.cut ∙ whole_on so_far.lines line)

-- all lines are served, the last one too
pub serves_all : (source now : Supply) (a b c : Serving) (line : List ℕ) → (so_far : SoFar source now a b line) → b.said.0.bytes ≡ [] → Serves b c (whole (line ∷ []))
    → Serves a c (lines_of so_far.bytes)
serves_all source now a b c line so_far clear last =
    subst (Serves a c) (lines_on source now a b line so_far) (serves_on a b c so_far.lines (whole (line ∷ [])) so_far.serves clear last)

-- the source has ended, and nothing failed
pub served_all : (source now next : Supply) (manager : Journaled) (written : Written) (b c : Serving) (line : List ℕ) → LeavesNone manager → SoFar source now (start_at manager written) b line
    → b.said.0.bytes ≡ [] → Consumes now.left next.left [] → next.failures ≡ now.failures → source.reads < next.reads → Asks source next → next.has_ended ≡ true → IsAtEnd next.left
    → Serves b c (whole (line ∷ [])) → c.said.0.bytes ≡ []
    → IsServed (console_of source (start_at manager written)) (console_of next c) c.served
served_all source now next manager written b c line none so_far clear read same request asks ended at_end last empty =
    let serves = serves_all source now (start_at manager written) b c line so_far clear last in
    record {
      bytes = so_far.bytes;
      answers = serves.answers;
      reads = reads_of source (start_at manager written) (console_of next c) so_far.bytes (lines_of so_far.bytes) serves.answers none
          (subst (Consumes source.left next.left) (append-nil so_far.bytes) (Consumes-trans source.left now.left next.left so_far.bytes [] so_far.read read)) asks serves.answered serves.short;
      writes = writes_of source next (start_at manager written) c (lines_of so_far.bytes) serves empty;
      request = request;
      ended = ended;
      at_end = at_end;
      no_failure = same ∙ so_far.no_failure;
      lines = omega (arith, serves.counted);
      refused = omega (arith, serves.refused);
    }

-- the answer that was cut off is that of the only line there is
only_line : (done later : List (List ℕ)) (line : List ℕ) → line ∷ [] ≡ done ++ later → 0 < length done → done ≡ line ∷ []
only_line [] later line are some = absurd (omega arith)
only_line (l ∷ []) [] line are some = sym are
only_line (l ∷ []) (next ∷ later) line are some = absurd (omega (arith, ap length are))
only_line (l ∷ next ∷ done) later line are some = absurd (omega (arith, ap length are))

-- as many lines as answers
as_many : (a b : Journaled) (lines : List (List ℕ)) (answers : List Answer) → AreAnswered a b lines answers → length lines ≡ length answers
as_many a b [] [] answered = refl
as_many a b [] (answer ∷ answers) answered = absurd answered
as_many a b (line ∷ lines) [] answered = absurd answered
as_many a b (line ∷ lines) (answer ∷ answers) answered = ap suc (as_many answered.0 b lines answers answered.2)

-- the source has ended, and the answer to the last line can't be written
pub end_failed : (source now next : Supply) (manager : Journaled) (written : Written) (b c : Serving) (line : List ℕ)
    → LeavesNone manager → SoFar source now (start_at manager written) b line → b.said.0.bytes ≡ []
    → Consumes now.left next.left [] → next.failures ≡ now.failures → Asks source next → next.has_ended ≡ true → IsCut b c (line ∷ []) → whole (line ∷ []) ≡ line ∷ []
    → (fault : ServeFault) → fault ≡ Write
    → ComesTo (console_of source (start_at manager written)) (console_of next c) (Err fault)
end_failed source now next manager written b c line none so_far clear read same asks ended cut is_line fault is =
    let some : 0 < length cut.done = omega (arith, as_many b.manager c.manager cut.done cut.answers cut.answered, ap length cut.stops.sent, length-append cut.stops.early (cut.stops.last ∷ [])) in
    let lines = ap (λ (l : List (List ℕ)). so_far.lines ++ l) (only_line cut.done cut.later line cut.lines_are some ∙ sym is_line)
    ∙ lines_on source now (start_at manager written) b line so_far in
    subst (λ f. ComesTo (console_of source (start_at manager written)) (console_of next c) (Err f)) (sym is)
    (cut_off source now next manager written b c (line ∷ []) line so_far.bytes none so_far clear
    (subst (Consumes source.left next.left) (append-nil so_far.bytes) (Consumes-trans source.left now.left next.left so_far.bytes [] so_far.read read)) same asks cut (inr (lines, ended)))

-- a line of the last piece is too long, or the answer to one can't be written
pub hear_failed : LinesAddUp → (source now next : Supply) (manager : Journaled) (written : Written) (b c : Serving) (line new piece : List ℕ)
    → LeavesNone manager → SoFar source now (start_at manager written) b line → b.said.0.bytes ≡ [] → Consumes now.left next.left piece → next.failures ≡ now.failures
    → Asks source next → (fault : ServeFault) → Hears b c (lines_and_rest (line ++ piece)) new (Err fault) → IsWritten c.said.0 c.marks (Err fault)
    → ComesTo (console_of source (start_at manager written)) (console_of next c) (Err fault)
hear_failed lines_add_up source now next manager written b c line new piece none so_far clear read same asks Read heard empty = absurd heard
hear_failed lines_add_up source now next manager written b c line new piece none so_far clear read same asks Write heard empty =
    write_failed lines_add_up source now next manager written b c line new piece none so_far clear read same asks heard
hear_failed lines_add_up source now next manager written b c line new piece none so_far clear read same asks LineTooLong heard empty =
    long_line lines_add_up source now next manager written b c line new piece none so_far clear read same asks heard empty.0
