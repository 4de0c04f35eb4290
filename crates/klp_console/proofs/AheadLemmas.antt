-- Lines that are served ahead of their answers, and taken back where these can't be written.
use Rattle.std.proofs.Common.{◌≡◌, ℕ, zero, suc, ◌+◌, ◌-◌, ◌<◌, ◌≤◌, ◌⊎◌, Bool, true, false, cond, List, [], ◌∷◌, ◌++◌, length, Option, Some, None, inl, inr, refl, sym, ap, subst, ◌∙◌, append_assoc, append-nil, arith}
use Rattle.std.proofs.lemmas.Bool.{le-leb, and_from, and_parts, ltb-true, ltb-false}
use Rattle.std.proofs.lemmas.List.{length-append}
use Rattle.std.proofs.lemmas.List.Folds.{list_all-append}
use Rattle.std.proofs.KnownBytes.{Appends-trans}
use Rattle.std.specs.Prelude.{nat_lt, find, option_map, Result}
use Rattle.std.specs.Io.KnownBytes.{Appends}
use Rattle.klp_core.specs.Journaled.{Journaled, IsWellFormed}
use Rattle.klp_console_io.specs.declared.marks.Mark.{Mark}
use Rattle.klp_console_io.specs.Gathered.{Gathered}
use Rattle.klp_console_io.specs.Marks.{ends_behind, events_at_cut}
use Rattle.klp_console_io.specs.Written.{Written}
use Rattle.klp_console_io.specs.Says.{IsToBlame, Says}
use Rattle.klp_types.specs.declared.limits.TheConstants.{MAX_CONSOLE_LINE}
use Rattle.klp_console_commands.specs.declared.request.Request.{Request}
use Rattle.klp_console_commands.specs.declared.fault.LineFault.{LineFault}
use Rattle.klp_console_commands.specs.Lines.{request_of}
use Rattle.klp_console.specs.Answered.{Answer, IsAnswered, IsDoneIf, names_in}
use Rattle.klp_console.specs.Back.{CanGoBack, IsMarked, AreMarked, IsTakenBack, can_be_taken_back, marks_on}
use Rattle.klp_console.specs.Lines.{AreAnswered, are_short, is_short, texts_of}
use Rattle.klp_console.specs.Said.{Serving, IsSaid, Serves, HasMarks, Ahead, IsCut}
use Rattle.klp_console.proofs.SaidLemmas.{answered_on, texts_on, refusals_on, serves_none, Goes, goes, fails, blame_on, stops_within}
use Rattle.klp_console.proofs.BackLemmas.{back_to_now, back_on, back_to, back_within, line_back}

-- the same with what is gathered held
abbrev pub hold : Gathered × Written → Gathered × Written
hold said = (record said.0 { held = length said.0.bytes }, said.1)

-- nothing is served yet
pub ahead_none : (a : Serving) → a.said.0.bytes ≡ [] → a.said.0.has_failed ≡ false → a.marks ≡ [] → Ahead a a []
ahead_none a empty still unmarked = record {
  serves = serves_none a empty still;
  has_marks = record {
    early = [];
    held = [];
    lines_are = refl;
    early_answers = [];
    held_answers = [];
    answers_are = refl;
    start = a.manager;
    answered = refl;
    all_written = omega arith;
    marked = subst (AreMarked a.manager a.manager 0 0 a.manager [] []) (sym unmarked) refl;
  };
}

-- one more line is marked, from which the journal leads back to where it led before
marks_push : (end now later next : Journaled) (written place : ℕ) (before : Journaled) (lines : List (List ℕ)) (answers : List Answer) (marks : List Mark)
    (line : List ℕ) (answer : Answer) (mark : Mark) → CanGoBack now later → AreMarked end now written place before lines answers marks → IsAnswered end next line answer
    → IsMarked next later written (place + length (texts_of answers) + length answer.text) mark
    → AreMarked next later written place before (lines ++ line ∷ []) (answers ++ answer ∷ []) (marks ++ mark ∷ [])
marks_push end now later next written place before [] [] [] line answer mark back marked is_answered is_marked = (
  next,
  subst (λ m. IsAnswered m next line answer) marked is_answered,
  subst (λ n. IsMarked next later written n mark) (omega arith) is_marked,
  refl,
)
marks_push end now later next written place before [] [] (m ∷ ms) line answer mark back marked is_answered is_marked = absurd marked
marks_push end now later next written place before [] (x ∷ xs) [] line answer mark back marked is_answered is_marked = absurd marked
marks_push end now later next written place before [] (x ∷ xs) (m ∷ ms) line answer mark back marked is_answered is_marked = absurd marked
marks_push end now later next written place before (l ∷ ls) [] [] line answer mark back marked is_answered is_marked = absurd marked
marks_push end now later next written place before (l ∷ ls) [] (m ∷ ms) line answer mark back marked is_answered is_marked = absurd marked
marks_push end now later next written place before (l ∷ ls) (x ∷ xs) [] line answer mark back marked is_answered is_marked = absurd marked
marks_push end now later next written place before (l ∷ ls) (x ∷ xs) (m ∷ ms) line answer mark back marked is_answered is_marked = (
  marked.0,
  marked.1,
  record { end = marked.2.end; events = marked.2.events; back = back_on marked.0 now later marked.2.back back },
  marks_push end now later next written (place + length x.text) marked.0 ls xs ms line answer mark back marked.3 is_answered
      (subst (λ n. IsMarked next later written n mark) (omega (arith, length-append x.text (texts_of xs))) is_marked),
)

-- the line in whose answer the sink stopped
record Found (now before : Journaled) (written taken place : ℕ) (lines : List (List ℕ)) (answers : List Answer) (events : ℕ) : Type 0 where
  done : List (List ℕ)
  later : List (List ℕ)
  lines_are : lines ≡ done ++ later
  early : List Answer
  last : Answer
  late : List Answer
  answers_are : answers ≡ (early ++ last ∷ []) ++ late
  left : Journaled
  answered : AreAnswered before left done (early ++ last ∷ [])
  well_formed : IsWellFormed left
  back : CanGoBack left now
  events_are : events ≡ length left.groups
  starts : place + length (texts_of early) ≤ written + taken
  ends : written + taken < place + length (texts_of (early ++ last ∷ []))

-- whether an answer ends behind the place where the sink stopped
bool_cases : {P : Type 0} (b : Bool) → (b ≡ true → P) → (b ≡ false → P) → P
bool_cases true then other = then refl
bool_cases false then other = other refl

found_at : (end now : Journaled) (written taken place : ℕ) (before : Journaled) (lines : List (List ℕ)) (answers : List Answer) (marks : List Mark) (events : ℕ)
    → AreMarked end now written place before lines answers marks → place ≤ written + taken → events_at_cut taken marks ≡ Some events
    → Found now before written taken place lines answers events
found_at end now written taken place before [] [] [] events marked starts is = cc
found_at end now written taken place before [] [] (m ∷ ms) events marked starts is = absurd marked
found_at end now written taken place before [] (x ∷ xs) [] events marked starts is = absurd marked
found_at end now written taken place before [] (x ∷ xs) (m ∷ ms) events marked starts is = absurd marked
found_at end now written taken place before (l ∷ ls) [] [] events marked starts is = absurd marked
found_at end now written taken place before (l ∷ ls) [] (m ∷ ms) events marked starts is = absurd marked
found_at end now written taken place before (l ∷ ls) (x ∷ xs) [] events marked starts is = absurd marked
found_at end now written taken place before (l ∷ ls) (x ∷ xs) (m ∷ ms) events marked starts is = bool_cases (nat_lt taken m.end)
    (λ cut.
    let here : Some m.events ≡ Some events = subst (λ b. option_map (λ (k : Mark). k.events) (cond b (Some m) (find (ends_behind taken) ms)) ≡ Some events) cut is in
    let same : events ≡ m.events = cc in
    record {
      done = l ∷ [];
      later = ls;
      lines_are = refl;
      early = [];
      last = x;
      late = xs;
      answers_are = refl;
      left = marked.0;
      answered = (marked.0, marked.1, refl);
      well_formed = marked.1.well_formed;
      back = marked.2.back;
      events_are = same ∙ marked.2.events;
      starts = omega (arith, starts);
      ends = omega (arith, marked.2.end, ltb-true taken m.end cut, length-append {A = ℕ} x.text []);
    })
    (λ whole.
    let behind : option_map (λ (k : Mark). k.events) (find (ends_behind taken) ms) ≡ Some events =
    subst (λ b. option_map (λ (k : Mark). k.events) (cond b (Some m) (find (ends_behind taken) ms)) ≡ Some events) whole is in
    let rest = found_at end now written taken (place + length x.text) marked.0 ls xs ms events marked.3 (omega (arith, marked.2.end, ltb-false taken m.end whole)) behind in
    record {
      done = l ∷ rest.done;
      later = rest.later;
      lines_are = ap (λ (more : List (List ℕ)). l ∷ more) rest.lines_are;
      early = x ∷ rest.early;
      last = rest.last;
      late = rest.late;
      answers_are = ap (λ (more : List Answer). x ∷ more) rest.answers_are;
      left = rest.left;
      answered = (marked.0, marked.1, rest.answered);
      well_formed = rest.well_formed;
      back = rest.back;
      events_are = rest.events_are;
      starts = omega (arith, rest.starts, length-append x.text (texts_of rest.early));
      ends = omega (arith, rest.ends, length-append x.text (texts_of (rest.early ++ rest.last ∷ [])));
    })

-- all these answers end before the place where the sink stopped
none_at : (end now : Journaled) (written taken place : ℕ) (before : Journaled) (lines : List (List ℕ)) (answers : List Answer) (marks : List Mark)
    → AreMarked end now written place before lines answers marks → place ≤ written + taken → events_at_cut taken marks ≡ None
    → place + length (texts_of answers) ≤ written + taken
none_at end now written taken place before [] [] [] marked starts is = omega (arith, starts)
none_at end now written taken place before [] [] (m ∷ ms) marked starts is = absurd marked
none_at end now written taken place before [] (x ∷ xs) [] marked starts is = absurd marked
none_at end now written taken place before [] (x ∷ xs) (m ∷ ms) marked starts is = absurd marked
none_at end now written taken place before (l ∷ ls) [] [] marked starts is = absurd marked
none_at end now written taken place before (l ∷ ls) [] (m ∷ ms) marked starts is = absurd marked
none_at end now written taken place before (l ∷ ls) (x ∷ xs) [] marked starts is = absurd marked
none_at end now written taken place before (l ∷ ls) (x ∷ xs) (m ∷ ms) marked starts is = bool_cases (nat_lt taken m.end)
    (λ cut.
    let here : Some m.events ≡ None = subst (λ b. option_map (λ (k : Mark). k.events) (cond b (Some m) (find (ends_behind taken) ms)) ≡ None) cut is in
    cc)
    (λ whole.
    let behind : option_map (λ (k : Mark). k.events) (find (ends_behind taken) ms) ≡ None =
    subst (λ b. option_map (λ (k : Mark). k.events) (cond b (Some m) (find (ends_behind taken) ms)) ≡ None) whole is in
    let rest = none_at end now written taken (place + length x.text) marked.0 ls xs ms marked.3 (omega (arith, marked.2.end, ltb-false taken m.end whole)) behind in
    omega (arith, rest, length-append x.text (texts_of xs)))

-- all answers are written or gathered
all_bytes : (a b : Serving) (lines : List (List ℕ)) → (serves : Serves a b lines) → length (texts_of serves.answers) ≡ length serves.gone + length b.said.0.bytes
all_bytes a b lines serves = ap length serves.cut ∙ length-append serves.gone b.said.0.bytes

-- where nothing is marked, all is written
none_gathered : (a b : Serving) (lines : List (List ℕ)) → Ahead a b lines → b.marks ≡ [] → length b.said.0.bytes ≡ 0
none_gathered a b lines ahead unmarked =
    let has = ahead.has_marks in
    let all = none_at b.manager b.manager (length ahead.serves.gone) 0 (length (texts_of has.early_answers)) has.start has.held has.held_answers b.marks has.marked
    (omega (arith, has.all_written)) (ap (events_at_cut 0) unmarked) in
    omega (
      arith,
      all,
      all_bytes a b lines ahead.serves,
      ap (λ answers. length (texts_of answers)) has.answers_are,
      ap length (texts_on has.early_answers has.held_answers),
      length-append (texts_of has.early_answers) (texts_of has.held_answers),
    )

-- what was gathered is written
pub ahead_written : (a b : Serving) (said : Gathered × Written) (lines : List (List ℕ)) → Ahead a b lines → Says (hold b.said) said [] → said.0.has_failed ≡ false → said.0.bytes ≡ []
    → Ahead a (record b { said = said; marks = [] }) lines
ahead_written a b said lines ahead more still empty =
    let serves = ahead.serves in
    let now = goes (hold b.said) said [] more serves.still still in
    let cut = serves.cut ∙ ap (λ (t : List ℕ). serves.gone ++ t) (sym (append-nil b.said.0.bytes) ∙ now.cut) ∙ sym (append_assoc serves.gone now.gone said.0.bytes) in
    record {
      serves = record {
        answers = serves.answers;
        answered = serves.answered;
        counted = serves.counted;
        refused = serves.refused;
        short = serves.short;
        gone = serves.gone ++ now.gone;
        cut = cut;
        written = Appends-trans a.said.1.taken b.said.1.taken said.1.taken serves.gone now.gone serves.written now.written;
        well = (now.well.0 ∙ serves.well.0, now.well.1 ∙ serves.well.1);
        still = still;
      };
      has_marks = record {
        early = lines;
        held = [];
        lines_are = sym (append-nil lines);
        early_answers = serves.answers;
        held_answers = [];
        answers_are = sym (append-nil serves.answers);
        start = b.manager;
        answered = serves.answered;
        all_written = omega (arith, ap length cut, length-append (serves.gone ++ now.gone) said.0.bytes, ap length empty);
        marked = refl;
      };
    }

short_front : (lines more all : List (List ℕ)) → all ≡ lines ++ more → are_short all ≡ true → are_short lines ≡ true
short_front lines more all is short = (and_parts (are_short lines) (are_short more) (sym (list_all-append is_short lines more) ∙ sym (ap are_short is) ∙ short)).0

-- The sink failed: it is known which answer it cut off, of a gathered line, which the manager is taken back to; or all that was gathered is written.
cut_back : (a b c : Serving) (now : Journaled) (lines : List (List ℕ)) → (ahead : Ahead a b lines) → (tail gone rest : List ℕ) (taken : ℕ)
    → (b.marks ≡ []) ⊎ CanGoBack b.manager now → texts_of ahead.serves.answers ++ tail ≡ (ahead.serves.gone ++ gone) ++ rest
    → Appends a.said.1.taken c.said.1.taken (ahead.serves.gone ++ gone) → IsToBlame a.said.1 c.said.1
    → taken ≡ length b.said.0.bytes - (length b.said.0.bytes - length gone)
    → (o : Option ℕ) → events_at_cut taken b.marks ≡ o → IsTakenBack now c.manager o
    → IsCut a c lines ⊎ ((c.manager ≡ now) × (length (texts_of ahead.serves.answers) ≤ length (ahead.serves.gone ++ gone)))
cut_back a b c now lines ahead tail gone rest taken quiet cut written blame are None is back =
    let has = ahead.has_marks in
    let all = none_at b.manager b.manager (length ahead.serves.gone) taken (length (texts_of has.early_answers)) has.start has.held has.held_answers b.marks has.marked
    (omega (arith, has.all_written)) is in
    inr (
      back,
      omega (
        arith,
        all,
        are,
        all_bytes a b lines ahead.serves,
        ap (λ answers. length (texts_of answers)) has.answers_are,
        ap length (texts_on has.early_answers has.held_answers),
        length-append (texts_of has.early_answers) (texts_of has.held_answers),
        length-append ahead.serves.gone gone,
      ),
    )
cut_back a b c now lines ahead tail gone rest taken (inl unmarked) cut written blame are (Some events) is back =
    let none : None ≡ Some events = sym (ap (events_at_cut taken) unmarked) ∙ is in cc
cut_back a b c now lines ahead tail gone rest taken (inr quiet) cut written blame are (Some events) is back =
    let has = ahead.has_marks in
    let found = found_at b.manager b.manager (length ahead.serves.gone) taken (length (texts_of has.early_answers)) has.start has.held has.held_answers b.marks events has.marked
    (omega (arith, has.all_written)) is in
    let led = back_on found.left b.manager now found.back quiet in
    let left : c.manager ≡ found.left = elim back [
      | inl rewound ↦ back_to found.left now c.manager events found.well_formed led found.events_are rewound.1
      | inr bad ↦ absurd (omega (arith, bad.0, found.events_are, back_within found.left now led))
    ] in
    let early = has.early_answers ++ found.early in
    let answers = sym (append_assoc has.early_answers found.early (found.last ∷ [])) in
    let split : ahead.serves.answers ≡ (early ++ found.last ∷ []) ++ found.late =
    has.answers_are ∙ ap (λ (l : List Answer). has.early_answers ++ l) found.answers_are ∙ sym (append_assoc has.early_answers (found.early ++ found.last ∷ []) found.late)
    ∙ ap (λ (l : List Answer). l ++ found.late) answers in
    let texts = ap texts_of split ∙ texts_on (early ++ found.last ∷ []) found.late in
    let first = texts_on has.early_answers found.early in
    let last = ap texts_of (sym answers) ∙ texts_on has.early_answers (found.early ++ found.last ∷ []) in
    inl (record {
      done = has.early ++ found.done;
      later = found.later;
      lines_are = has.lines_are ∙ ap (λ (l : List (List ℕ)). has.early ++ l) found.lines_are ∙ sym (append_assoc has.early found.done found.later);
      answers = early ++ found.last ∷ [];
      answered = subst (λ (m : Journaled). AreAnswered a.manager m (has.early ++ found.done) (early ++ found.last ∷ [])) (sym left)
          (subst (AreAnswered a.manager found.left (has.early ++ found.done)) answers
          (answered_on a.manager has.start found.left has.early found.done has.early_answers (found.early ++ found.last ∷ []) has.answered found.answered));
      short = short_front (has.early ++ found.done) found.later lines
          (has.lines_are ∙ ap (λ (l : List (List ℕ)). has.early ++ l) found.lines_are ∙ sym (append_assoc has.early found.done found.later)) ahead.serves.short;
      stops = stops_within a.said.1 c.said.1 early found.last (texts_of found.late ++ tail) (ahead.serves.gone ++ gone) rest
          (sym (append_assoc (texts_of (early ++ found.last ∷ [])) (texts_of found.late) tail) ∙ ap (λ (t : List ℕ). t ++ tail) (sym texts) ∙ cut)
          (omega (arith, ap length first, length-append (texts_of has.early_answers) (texts_of found.early), found.starts, are, length-append ahead.serves.gone gone))
          (omega (
            arith,
            ap length last,
            length-append (texts_of has.early_answers) (texts_of (found.early ++ found.last ∷ [])),
            found.ends,
            are,
            length-append ahead.serves.gone gone,
            ap length texts,
            length-append (texts_of (early ++ found.last ∷ [])) (texts_of found.late),
            all_bytes a b lines ahead.serves,
          ))
          written blame;
    })

-- what the sink took of all answers
cut_all : (gone gathered tail taken rest text : List ℕ) → text ≡ gone ++ gathered → gathered ++ tail ≡ taken ++ rest → text ++ tail ≡ (gone ++ taken) ++ rest
cut_all gone gathered tail taken rest text first next =
    ap (λ (l : List ℕ). l ++ tail) first ∙ append_assoc gone gathered tail ∙ ap (λ (l : List ℕ). gone ++ l) next ∙ sym (append_assoc gone taken rest)

-- what was gathered can't be written
pub flush_cut : (a b c : Serving) (lines : List (List ℕ)) → Ahead a b lines → Says (hold b.said) c.said [] → c.said.0.has_failed ≡ true
    → IsTakenBack b.manager c.manager (events_at_cut (length b.said.0.bytes - c.said.0.held) b.marks) → IsCut a c lines
flush_cut a b c lines ahead more failed back =
    let serves = ahead.serves in
    let now = fails (hold b.said) c.said [] more serves.still failed in
    let cut = cut_all serves.gone b.said.0.bytes [] now.gone now.rest (texts_of serves.answers) serves.cut now.cut in
    elim (cut_back a b c b.manager lines ahead [] now.gone now.rest (length b.said.0.bytes - c.said.0.held) (inr (back_to_now b.manager)) cut
    (Appends-trans a.said.1.taken b.said.1.taken c.said.1.taken serves.gone now.gone serves.written now.written) (blame_on a.said.1 b.said.1 c.said.1 serves.well now.blame)
    (ap (λ n. length b.said.0.bytes - n) now.held) _ refl back) [
      | inl is_cut ↦ is_cut
      | inr whole ↦ absurd (omega (
        arith,
        whole.1,
        now.missing,
        ap length cut,
        length-append {A = ℕ} (texts_of serves.answers) [],
        length-append (serves.gone ++ now.gone) now.rest,
      ))
    ]

-- the lines behind it are none of those that are done
pub cut_on : (a c : Serving) (lines more : List (List ℕ)) → IsCut a c lines → IsCut a c (lines ++ more)
cut_on a c lines more cut = record {
  done = cut.done;
  later = cut.later ++ more;
  lines_are = ap (λ (l : List (List ℕ)). l ++ more) cut.lines_are ∙ append_assoc cut.done cut.later more;
  answers = cut.answers;
  answered = cut.answered;
  short = cut.short;
  stops = cut.stops;
}

-- a line was done, counted and its answer said; it can be taken back, or nothing before it has a mark
pub record Does (b n : Serving) (line : List ℕ) : Type 0 where
  pub answer : Answer
  pub is_answered : IsAnswered b.manager n.manager line answer
  pub says : Says (hold b.said) n.said answer.text
  pub quiet : (b.marks ≡ []) ⊎ CanGoBack b.manager n.manager
  pub short : is_short line ≡ true
  pub lines : n.served.lines ≡ b.served.lines + 1
  pub refused : n.served.refused ≡ b.served.refused + cond answer.is_refused 1 0

quiet_if : (before after : Journaled) (request : Option (Result Request LineFault)) (answer : Answer) (marks : List Mark) → IsDoneIf before after request answer
    → (can_be_taken_back before request ≡ true) ⊎ (marks ≡ []) → (marks ≡ []) ⊎ CanGoBack before after
quiet_if before after request answer marks done (inl can) = inr (line_back before after request answer can done)
quiet_if before after request answer marks done (inr none) = inl none

pub does_line : (b n : Serving) (line : List ℕ) (request : Option (Result Request LineFault)) (sent : Bool) → request ≡ request_of (names_in b.manager) line
    → IsSaid (IsDoneIf b.manager n.manager request) (hold b.said) n.said sent → IsWellFormed n.manager → length line ≤ MAX_CONSOLE_LINE
    → n.served.lines ≡ b.served.lines + 1 → n.served.refused ≡ b.served.refused + cond sent 1 0
    → (can_be_taken_back b.manager request ≡ true) ⊎ (b.marks ≡ []) → Does b n line
does_line b n line request sent asked said well_formed short lines refused back =
    let answer : Answer = record { text = said.0; is_refused = sent } in
    record {
      answer = answer;
      is_answered = record { done = subst (λ question. IsDoneIf b.manager n.manager question answer) asked said.1; well_formed = well_formed };
      says = said.2;
      quiet = quiet_if b.manager n.manager request answer b.marks said.1 back;
      short = le-leb (length line) MAX_CONSOLE_LINE short;
      lines = lines;
      refused = refused;
    }

-- one more line is served
abbrev serves_next : (a b n : Serving) (lines : List (List ℕ)) (line : List ℕ) → Serves a b lines → (does : Does b n line) → n.said.0.has_failed ≡ false
    → Goes (hold b.said) n.said does.answer.text → Serves a n (lines ++ line ∷ [])
serves_next a b n lines line first does still now = record {
  answers = first.answers ++ does.answer ∷ [];
  answered = answered_on a.manager b.manager n.manager lines (line ∷ []) first.answers (does.answer ∷ []) first.answered (n.manager, does.is_answered, refl);
  counted = omega (arith, does.lines, first.counted, length-append lines (line ∷ []));
  refused = omega (arith, does.refused, first.refused, refusals_on first.answers (does.answer ∷ []));
  short = list_all-append is_short lines (line ∷ []) ∙ and_from (are_short lines) (are_short (line ∷ [])) first.short (and_from (is_short line) true does.short refl);
  gone = first.gone ++ now.gone;
  cut = texts_on first.answers (does.answer ∷ []) ∙ ap (λ (l : List ℕ). texts_of first.answers ++ l) (append-nil does.answer.text)
      ∙ cut_all first.gone b.said.0.bytes does.answer.text now.gone n.said.0.bytes (texts_of first.answers) first.cut now.cut;
  written = Appends-trans a.said.1.taken b.said.1.taken n.said.1.taken first.gone now.gone first.written now.written;
  well = (now.well.0 ∙ first.well.0, now.well.1 ∙ first.well.1);
  still = still;
}

-- how far all answers reach with one more
place_on : (a b n : Serving) (lines : List (List ℕ)) (line : List ℕ) → (first : Serves a b lines) → (does : Does b n line) → (now : Goes (hold b.said) n.said does.answer.text)
    → length (first.gone ++ now.gone) + length n.said.0.bytes ≡ length (texts_of first.answers) + length does.answer.text
place_on a b n lines line first does now = omega (
  arith,
  all_bytes a b lines first,
  length-append first.gone now.gone,
  ap length now.cut,
  length-append b.said.0.bytes does.answer.text,
  length-append now.gone n.said.0.bytes,
)

-- the marks with one more
has_marks_on : (a b n : Serving) (lines : List (List ℕ)) (line : List ℕ) → (ahead : Ahead a b lines) → (does : Does b n line) → (now : Goes (hold b.said) n.said does.answer.text)
    → (mark : Mark) → mark.end ≡ length n.said.0.bytes → mark.events ≡ length n.manager.groups → (held : ℕ) → n.said.0.held ≡ held → n.marks ≡ marks_on held b.marks mark
    → HasMarks a n (lines ++ line ∷ []) (ahead.serves.answers ++ does.answer ∷ []) (length (ahead.serves.gone ++ now.gone))
has_marks_on a b n lines line ahead does now mark ends events zero held marks =
    let serves = ahead.serves in
    let written = length (serves.gone ++ now.gone) in
    record {
      early = lines;
      held = line ∷ [];
      lines_are = refl;
      early_answers = serves.answers;
      held_answers = does.answer ∷ [];
      answers_are = refl;
      start = b.manager;
      answered = serves.answered;
      all_written = omega (arith, all_bytes a b lines serves, now.held, held, length-append serves.gone now.gone);
      marked = subst (AreMarked n.manager n.manager written (length (texts_of serves.answers)) b.manager (line ∷ []) (does.answer ∷ [])) (sym marks) (
        n.manager,
        does.is_answered,
        record { end = ap (λ k. written + k) ends ∙ place_on a b n lines line serves does now; events = events; back = back_to_now n.manager },
        refl,
      );
    }
has_marks_on a b n lines line ahead does now mark ends events (suc left) held marks =
    let serves = ahead.serves in
    let has = ahead.has_marks in
    let none : now.gone ≡ [] = elim now.whole [
      | inl nothing ↦ nothing
      | inr all ↦ absurd (omega (arith, all, held))
    ] in
    let back : CanGoBack b.manager n.manager = elim does.quiet [
      | inl unmarked ↦ absurd (omega (arith, none_gathered a b lines ahead unmarked, now.held, held))
      | inr back ↦ back
    ] in
    let same : serves.gone ++ now.gone ≡ serves.gone = ap (λ (l : List ℕ). serves.gone ++ l) none ∙ append-nil serves.gone in
    let written = length serves.gone in
    let place = length (texts_of has.early_answers) in
    let texts = ap (λ answers. length (texts_of answers)) has.answers_are ∙ ap length (texts_on has.early_answers has.held_answers)
    ∙ length-append (texts_of has.early_answers) (texts_of has.held_answers) in
    record {
      early = has.early;
      held = has.held ++ line ∷ [];
      lines_are = ap (λ (l : List (List ℕ)). l ++ line ∷ []) has.lines_are ∙ append_assoc has.early has.held (line ∷ []);
      early_answers = has.early_answers;
      held_answers = has.held_answers ++ does.answer ∷ [];
      answers_are = ap (λ (l : List Answer). l ++ does.answer ∷ []) has.answers_are ∙ append_assoc has.early_answers has.held_answers (does.answer ∷ []);
      start = has.start;
      answered = has.answered;
      all_written = omega (arith, has.all_written, ap length same);
      marked = subst (AreMarked n.manager n.manager (length (serves.gone ++ now.gone)) place has.start (has.held ++ line ∷ []) (has.held_answers ++ does.answer ∷ [])) (sym marks)
          (subst (λ k. AreMarked n.manager n.manager k place has.start (has.held ++ line ∷ []) (has.held_answers ++ does.answer ∷ []) (b.marks ++ mark ∷ [])) (sym (ap length same))
          (marks_push b.manager b.manager n.manager n.manager written place has.start has.held has.held_answers b.marks line does.answer mark back has.marked does.is_answered (record {
            end = omega (arith, ends, place_on a b n lines line serves does now, ap length same, texts);
            events = events;
            back = back_to_now n.manager;
          })));
    }

pub next_ahead : (a b n : Serving) (lines : List (List ℕ)) (line : List ℕ) → Ahead a b lines → Does b n line → n.said.0.has_failed ≡ false
    → (mark : Mark) → mark.end ≡ length n.said.0.bytes → mark.events ≡ length n.manager.groups → n.marks ≡ marks_on n.said.0.held b.marks mark → Ahead a n (lines ++ line ∷ [])
next_ahead a b n lines line ahead does still mark ends events marks =
    let now = goes (hold b.said) n.said does.answer.text does.says ahead.serves.still still in
    record {
      serves = serves_next a b n lines line ahead.serves does still now;
      has_marks = has_marks_on a b n lines line ahead does now mark ends events n.said.0.held refl marks;
    }

-- the answer to one more line, or one before it, can't be written
pub next_cut : (a b n : Serving) (left : Journaled) (lines : List (List ℕ)) (line : List ℕ) → Ahead a b lines → Does b n line → n.said.0.has_failed ≡ true
    → IsTakenBack n.manager left (events_at_cut (length b.said.0.bytes - n.said.0.held) b.marks) → IsCut a (record n { manager = left }) (lines ++ line ∷ [])
next_cut a b n left lines line ahead does failed back =
    let serves = ahead.serves in
    let now = fails (hold b.said) n.said does.answer.text does.says serves.still failed in
    let after = record n { manager = left } in
    let cut = cut_all serves.gone b.said.0.bytes does.answer.text now.gone now.rest (texts_of serves.answers) serves.cut now.cut in
    let written = Appends-trans a.said.1.taken b.said.1.taken n.said.1.taken serves.gone now.gone serves.written now.written in
    let blame = blame_on a.said.1 b.said.1 n.said.1 serves.well now.blame in
    elim (cut_back a b after n.manager lines ahead does.answer.text now.gone now.rest (length b.said.0.bytes - n.said.0.held) does.quiet cut written blame
    (ap (λ k. length b.said.0.bytes - k) now.held) _ refl back) [
      | inl is_cut ↦ cut_on a after lines (line ∷ []) is_cut
      | inr whole ↦
          let text = texts_on serves.answers (does.answer ∷ []) ∙ ap (λ (l : List ℕ). texts_of serves.answers ++ l) (append-nil does.answer.text) in
          record {
            done = lines ++ line ∷ [];
            later = [];
            lines_are = sym (append-nil (lines ++ line ∷ []));
            answers = serves.answers ++ does.answer ∷ [];
            answered = subst (λ (m : Journaled). AreAnswered a.manager m (lines ++ line ∷ []) (serves.answers ++ does.answer ∷ [])) (sym whole.0)
                (answered_on a.manager b.manager n.manager lines (line ∷ []) serves.answers (does.answer ∷ []) serves.answered (n.manager, does.is_answered, refl));
            short = list_all-append is_short lines (line ∷ []) ∙ and_from (are_short lines) (are_short (line ∷ [])) serves.short (and_from (is_short line) true does.short refl);
            stops = record {
              early = serves.answers;
              last = does.answer;
              sent = refl;
              gone = serves.gone ++ now.gone;
              rest = now.rest;
              cut = text ∙ cut;
              written = written;
              missing = now.missing;
              whole = whole.1;
              blame = blame;
            };
          }
    ]
