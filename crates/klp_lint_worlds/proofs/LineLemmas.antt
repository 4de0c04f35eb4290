-- The first line of a text.
use Rattle.std.proofs.Common.{◌≡◌, ℕ, zero, suc, ◌+◌, ◌<◌, Bool, true, false, cond, List, [], ◌∷◌, length, get_or, take, drop, Some, None, refl, sym, ap, ◌∙◌, arith, add-one, ◌-◌, length-drop}
use Rattle.std.proofs.lemmas.List.Quantifiers.{position-Some}
use Rattle.std.proofs.lemmas.List.Splits.{length-slice_split}
use Rattle.std.proofs.lemmas.List.{take_all}
use Rattle.std.proofs.lemmas.List.Sums.{fails_before_first}
use Rattle.std.proofs.lemmas.Bool.Decides.{nat_tests}
use Rattle.std.specs.Prelude.{nat_lt}
use Rattle.std.specs.List.{position, position_or_len}
use Rattle.klp_console_io.specs.Lines.{is_line_feed, lines_and_rest}
use Rattle.klp_console.specs.Lines.{whole, lines_of}

cut_at : (text : List ℕ) (place : ℕ) → place < length text → is_line_feed (get_or text place 0) ≡ true
    → ((k : ℕ) → k < place → is_line_feed (get_or text k 0) ≡ false)
    → lines_and_rest text ≡ take place text ∷ lines_and_rest (drop (suc place) text)
cut_at [] place within is before = absurd (omega arith)
cut_at (b ∷ text) zero within is before = rw is refl
cut_at (b ∷ text) (suc place) within is before =
    let first : is_line_feed b ≡ false = before 0 (omega arith) in
    let more = cut_at text place (omega arith) is (λ k h. before (suc k) (omega arith)) in
    rw (first, more) refl

uncut : (text : List ℕ) → ((k : ℕ) → k < length text → is_line_feed (get_or text k 0) ≡ false) → lines_and_rest text ≡ text ∷ []
uncut [] none = refl
uncut (b ∷ text) none =
    let first : is_line_feed b ≡ false = none 0 (omega arith) in
    let more = uncut text (λ k h. none (suc k) (omega arith)) in
    rw (first, more) refl

below : (found : Bool) (at len k : ℕ) → nat_lt at len ≡ found → cond found (Some at) None ≡ None → k < len → k < at
below true at len k test none h = absurd (cc)
below false at len k test none h = grind (arith, nat_tests)

-- each line but the last is whole
whole_before : (line : List ℕ) (lines : List (List ℕ)) → 0 < length lines → whole (line ∷ lines) ≡ line ∷ whole lines
whole_before line [] some = absurd (omega arith)
whole_before [] (next ∷ lines) some = refl
whole_before (b ∷ line) (next ∷ lines) some = refl

some_rest : (text : List ℕ) → 0 < length (lines_and_rest text)
some_rest text = omega (arith, length-slice_split is_line_feed text)

pub line_cut : (text : List ℕ) (place : ℕ) → position is_line_feed text ≡ Some place
    → lines_of text ≡ take place text ∷ lines_of (drop (place + 1) text)
line_cut text place found =
    let at = position-Some is_line_feed text place 0 found in
    rw add-one (ap whole (cut_at text place at.0 at.1 at.2)
    ∙ whole_before (take place text) (lines_and_rest (drop (suc place) text)) (some_rest (drop (suc place) text)))

pub line_last : (text : List ℕ) → position is_line_feed text ≡ None → (length text ≡ 0 → ⊥) → lines_of text ≡ text ∷ lines_of []
line_last [] none some = absurd (some refl)
line_last (b ∷ text) none some =
    ap whole (uncut (b ∷ text) (λ k h. fails_before_first is_line_feed (b ∷ text) k 0
    (below (nat_lt (position_or_len is_line_feed (b ∷ text)) (length (b ∷ text))) (position_or_len is_line_feed (b ∷ text)) (length (b ∷ text)) k refl none h)))

pub whole_rest : (text : List ℕ) (from : ℕ) → drop from text ≡ take (length text - from) (drop from text)
whole_rest text from = sym (take_all (length text - from) (drop from text) (omega (arith, length-drop from text)))
