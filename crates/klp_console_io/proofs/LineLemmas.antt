-- Lines of bytes that are heard piece by piece.
use Rattle.std.proofs.Common.{◌≡◌, ℕ, ◌+◌, ◌<◌, ◌≤◌, Bool, true, false, cond, List, [], ◌∷◌, ◌++◌, length, get_or, take, drop, position, Option, Some, None, IfSome, IfNone, refl, subst, sym, ap, ◌∙◌, arith}
use Rattle.std.specs.List.{onto_first, before_first, position_or_len}
use Rattle.std.proofs.lemmas.Grind.{common_steps}
use Rattle.std.proofs.lemmas.List.{take_all}
use Rattle.std.proofs.lemmas.List.Elements.{All-from_get_or}
use Rattle.std.proofs.lemmas.List.Sums.{fails_before_first}
use Rattle.std.proofs.lemmas.List.Splits.{slice_split-cons_no, slice_split_none, slice_split_first, length-slice_split}
use Rattle.klp_console_io.specs.Lines.{is_line_feed, lines_and_rest}

-- there is always a first line, be it the unfinished one
some_line : (bytes : List ℕ) → 0 < length (lines_and_rest bytes)
some_line bytes = omega (arith, length-slice_split is_line_feed bytes)

-- one byte more in front, where `parts` are the lines of what was heard after it and `whole` with what is heard next
byte_more : (x : ℕ) (next : List ℕ) (parts whole done : List (List ℕ)) (rest : List ℕ) (test : Bool) → is_line_feed x ≡ test → 0 < length parts
    → ((done : List (List ℕ)) (rest : List ℕ) → parts ≡ done ++ rest ∷ [] → whole ≡ done ++ lines_and_rest (rest ++ next))
    → cond test ([] ∷ parts) (onto_first x parts) ≡ done ++ rest ∷ []
    → cond test ([] ∷ whole) (onto_first x whole) ≡ done ++ lines_and_rest (rest ++ next)
byte_more x next [] whole done rest test is some on e = absurd (omega arith)
byte_more x next (part ∷ parts) whole [] rest true is some on e = absurd (cc)
byte_more x next (part ∷ parts) whole (first ∷ done) rest true is some on e = let before = on done rest (cc) in cc
byte_more x next (part ∷ parts) whole [] rest false is some on e =
    let before = on [] part (cc) in
    let all : (x ∷ part) ≡ rest = cc in
    ap (onto_first x) before ∙ sym (slice_split-cons_no is_line_feed x (part ++ next) is) ∙ ap (λ bytes. lines_and_rest (bytes ++ next)) all
byte_more x next (part ∷ parts) whole (first ∷ done) rest false is some on e =
    let before = on (part ∷ done) rest (cc) in
    ap (onto_first x) before ∙ cc

-- what is heard next leaves the finished lines and goes on with the last one
pub lines_and_rest-append : (bytes next : List ℕ) (done : List (List ℕ)) (rest : List ℕ) → lines_and_rest bytes ≡ done ++ rest ∷ [] → lines_and_rest (bytes ++ next) ≡ done ++ lines_and_rest (rest ++ next)
lines_and_rest-append [] next [] rest e = let none : [] ≡ rest = cc in ap (λ bytes. lines_and_rest (bytes ++ next)) none
lines_and_rest-append [] next (first ∷ []) rest e = absurd (cc)
lines_and_rest-append [] next (first ∷ second ∷ done) rest e = absurd (cc)
lines_and_rest-append (x ∷ xs) next done rest e =
    byte_more x next (lines_and_rest xs) (lines_and_rest (xs ++ next)) done rest (is_line_feed x) refl (some_line xs) (lines_and_rest-append xs next) e

-- where a byte and those after it have no line feed, neither has
byte_in_front : (x : ℕ) (xs : List ℕ) (parts : List (List ℕ)) (test : Bool) → is_line_feed x ≡ test → 0 < length parts → cond test ([] ∷ parts) (onto_first x parts) ≡ (x ∷ xs) ∷ [] → (is_line_feed x ≡ false) × (parts ≡ xs ∷ [])
byte_in_front x xs [] test is some e = absurd (omega arith)
byte_in_front x xs (part ∷ parts) true is some e = absurd (cc)
byte_in_front x xs (part ∷ parts) false is some e = (is, cc)

-- bytes that have no line feed stand in front of the first line
pub lines_and_rest-in_front : (bytes next first : List ℕ) (more : List (List ℕ)) → lines_and_rest bytes ≡ bytes ∷ [] → lines_and_rest next ≡ first ∷ more → lines_and_rest (bytes ++ next) ≡ (bytes ++ first) ∷ more
lines_and_rest-in_front [] next first more e f = f
lines_and_rest-in_front (x ∷ xs) next first more e f =
    let here = byte_in_front x xs (lines_and_rest xs) (is_line_feed x) refl (some_line xs) e in
    slice_split-cons_no is_line_feed x (xs ++ next) here.0 ∙ ap (onto_first x) (lines_and_rest-in_front xs next first more here.1 f)

-- no byte in front of the first line feed is one
no_line_feed : (bytes : List ℕ) (i : ℕ) → i < length (before_first is_line_feed bytes) → is_line_feed (get_or (before_first is_line_feed bytes) i 0) ≡ false
no_line_feed bytes i within =
    let fails : i < position_or_len is_line_feed bytes → is_line_feed (get_or bytes i 0) ≡ false = fails_before_first is_line_feed bytes i 0 in
    grind (arith, common_steps)

-- so they are one line
before_is_one_line : (bytes : List ℕ) → lines_and_rest (before_first is_line_feed bytes) ≡ before_first is_line_feed bytes ∷ []
before_is_one_line bytes =
    let front = before_first is_line_feed bytes in
    let fails : (i : ℕ) → i < length front → is_line_feed (get_or front i 0) ≡ false = λ i lt. no_line_feed bytes i lt in
    slice_split_none is_line_feed front (All-from_get_or (λ b. is_line_feed b ≡ false) front 0 fails)

-- where the first line feed is
found : (bytes : List ℕ) (n : ℕ) → position is_line_feed bytes ≡ Some n → (position_or_len is_line_feed bytes ≡ n) × (n < length bytes)
found bytes n e = (grind (arith, common_steps), grind (arith, common_steps))

-- and where it would be if there is none
missing : (bytes : List ℕ) → position is_line_feed bytes ≡ None → length bytes ≤ position_or_len is_line_feed bytes
missing bytes e = grind (arith, common_steps)

-- what stands before the first line feed has none
pub front_at : (bytes : List ℕ) (n : ℕ) → position is_line_feed bytes ≡ Some n → lines_and_rest (take n bytes) ≡ take n bytes ∷ []
front_at bytes n e =
    let P : ℕ → Type 0 = λ m. lines_and_rest (take m bytes) ≡ take m bytes ∷ [] in
    subst P (found bytes n e).0 (before_is_one_line bytes)

-- and is the first line: the others come after it
pub rest_at : (bytes : List ℕ) (n : ℕ) → position is_line_feed bytes ≡ Some n → lines_and_rest bytes ≡ take n bytes ∷ lines_and_rest (drop (n + 1) bytes)
rest_at bytes n e =
    let here = found bytes n e in
    let P : ℕ → Type 0 = λ m. lines_and_rest bytes ≡ take m bytes ∷ lines_and_rest (drop (m + 1) bytes) in
    subst P here.0 (slice_split_first is_line_feed bytes 0 (omega arith))

-- without a line feed there is one line, which isn't finished
pub one_line : (bytes : List ℕ) → position is_line_feed bytes ≡ None → lines_and_rest bytes ≡ bytes ∷ []
one_line bytes e =
    let P : List ℕ → Type 0 = λ front. lines_and_rest front ≡ front ∷ [] in
    subst P (take_all (position_or_len is_line_feed bytes) bytes (missing bytes e)) (before_is_one_line bytes)

-- the same bytes
pub one_line_along : (now old : List ℕ) → now ≡ old → lines_and_rest now ≡ now ∷ [] → lines_and_rest old ≡ old ∷ []
one_line_along now old same e = let P : List ℕ → Type 0 = λ bytes. lines_and_rest bytes ≡ bytes ∷ [] in subst P same e

-- a line that has taken more bytes without a line feed has none either
pub one_line_still : (old new front : List ℕ) → lines_and_rest old ≡ old ∷ [] → lines_and_rest front ≡ front ∷ [] → new ≡ old ++ front → lines_and_rest new ≡ new ∷ []
one_line_still old new front e f same = one_line_along (old ++ front) new (sym same) (lines_and_rest-in_front old front front [] e f)

-- a piece that is heard begins with its front
pub first_of_piece : {B : Type 0} (rest : Option B) (now : B → List ℕ) (piece front : List ℕ) → lines_and_rest front ≡ front ∷ [] → IfNone rest (front ≡ piece)
    → IfSome rest (λ r. lines_and_rest piece ≡ front ∷ lines_and_rest (now r)) → (more : List (List ℕ)) × (lines_and_rest piece ≡ front ∷ more)
first_of_piece None now piece front e whole h = ([], let P : List ℕ → Type 0 = λ bytes. lines_and_rest bytes ≡ front ∷ [] in subst P whole e)
first_of_piece (Some r) now piece front e whole h = (lines_and_rest (now r), h)

-- with a line feed in it, it finishes the line
pub finishes : {B : Type 0} (rest : Option B) (now : B → List ℕ) (old new piece front : List ℕ) → lines_and_rest old ≡ old ∷ [] → new ≡ old ++ front
    → IfSome rest (λ r. lines_and_rest piece ≡ front ∷ lines_and_rest (now r)) → IfSome rest (λ r. lines_and_rest (old ++ piece) ≡ new ∷ lines_and_rest (now r))
finishes None now old new piece front e same h = h
finishes (Some r) now old new piece front e same h = lines_and_rest-in_front old piece front (lines_and_rest (now r)) e h ∙ ap (λ line. line ∷ lines_and_rest (now r)) (sym same)

-- with none, all of it belongs to the line
pub goes_on : {B : Type 0} (rest : Option B) (old new piece front : List ℕ) → lines_and_rest new ≡ new ∷ [] → new ≡ old ++ front
    → IfNone rest (front ≡ piece) → IfNone rest (lines_and_rest (old ++ piece) ≡ new ∷ [])
goes_on None old new piece front e same whole = let P : List ℕ → Type 0 = λ bytes. lines_and_rest bytes ≡ new ∷ [] in subst P (same ∙ ap (λ bytes. old ++ bytes) whole) e
goes_on (Some r) old new piece front e same whole = whole
