-- The parts of an edit, and edits one after another.
use Rattle.std.proofs.Common.{◌≡◌, ℕ, ◌+◌, ◌-◌, ◌==◌, Bool, true, false, List, [], ◌∷◌, length, take, drop, position, Some, None, refl, sym, ap, ◌∙◌, arith, length-drop}
use Rattle.std.proofs.lemmas.List.{take_all}
use Rattle.std.proofs.lemmas.List.Splits.{slice_split_first, slice_split_none}
use Rattle.std.proofs.lemmas.List.Sums.{fails_before_first}
use Rattle.std.specs.Prelude.{Result, Ok, Err}
use Rattle.klp_types.specs.declared.edit.Edit.{Edit}
use Rattle.klp_types.specs.declared.edit.Edit.TheVariants.{Free, FreeAll, SetData, TakePrev}
use Rattle.klp_words.specs.Steps.{◌>>=◌}
use Rattle.klp_catalog_text.specs.declared.fault.TextFaultKind.{TextFaultKind}
use Rattle.klp_catalog_text.specs.Edits.{parts_of, parts_left, edit_number, one_number, two_numbers, free_of, free_all_of, set_of, take_prev_of}
use Rattle.klp_words.proofs.SplitLemmas.{found_at, missing_from}
use Rattle.klp_catalog_text.proofs.LineLemmas.{within}

-- without a colon the whole rest is the last part
last_part : (text : List ℕ) → position (λ b. b == 58) text ≡ None → parts_of text ≡ text ∷ []
last_part text h =
    let far = missing_from (λ b. b == 58) text h in
    slice_split_none (λ b. b == 58) text (λ k d lt. fails_before_first (λ b. b == 58) text k d (omega arith))

-- the first part ends at the first colon
part_at : (text : List ℕ) (n : ℕ) → position (λ b. b == 58) text ≡ Some n → parts_of text ≡ take n text ∷ parts_of (drop (n + 1) text)
part_at text n h =
    let here = found_at (λ b. b == 58) text n h in
    let inside = within (λ b. b == 58) text n h in
    slice_split_first (λ b. b == 58) text 0 (omega (arith, here, inside)) ∙ rw here refl

pub last_is : (is_over : Bool) (text : List ℕ) (left : List (List ℕ)) → is_over ≡ false → parts_left is_over text ≡ left → position (λ b. b == 58) text ≡ None → left ≡ text ∷ []
last_is true text left on view h = absurd cc
last_is false text left on view h = sym view ∙ last_part text h

pub next_is : (is_over : Bool) (text rest : List ℕ) (n : ℕ) (left : List (List ℕ)) → is_over ≡ false → parts_left is_over text ≡ left → position (λ b. b == 58) text ≡ Some n
    → rest ≡ take (length text - (n + 1)) (drop (n + 1) text) → left ≡ take n text ∷ parts_left is_over rest
next_is true text rest n left on view h is = absurd cc
next_is false text rest n left on view h is =
    let whole = take_all (length text - (n + 1)) (drop (n + 1) text) (omega (arith, length-drop {A = ℕ})) in
    sym view ∙ part_at text n h ∙ ap (λ r. take n text ∷ parts_of r) (sym (is ∙ whole))

-- an edit of one number, or of two
pub free_all_by : (parts : List (List ℕ)) → free_all_of parts ≡ (one_number parts >>= λ id. Ok (FreeAll id))
free_all_by [] = refl
free_all_by (id ∷ []) = refl
free_all_by (id ∷ part ∷ parts) = refl

pub take_prev_by : (parts : List (List ℕ)) → take_prev_of parts ≡ (one_number parts >>= λ state. Ok (TakePrev state))
take_prev_by [] = refl
take_prev_by (state ∷ []) = refl
take_prev_by (state ∷ part ∷ parts) = refl

both : (make : ℕ → ℕ → Edit) (m n : Result ℕ TextFaultKind)
    → (m >>= λ a. n >>= λ b. Ok (make a b)) ≡ ((m >>= λ a. n >>= λ b. Ok (a, b)) >>= λ (p : ℕ × ℕ). Ok (make p.0 p.1))
both make (Ok a) (Ok b) = refl
both make (Ok a) (Err kind) = refl
both make (Err kind) n = refl

pub free_by : (parts : List (List ℕ)) → free_of parts ≡ (two_numbers parts >>= λ (p : ℕ × ℕ). Ok (Free (record { obj = p.0; id = p.1 })))
free_by [] = refl
free_by (obj ∷ []) = refl
free_by (obj ∷ id ∷ []) = both (λ a b. Free (record { obj = a; id = b })) (edit_number obj) (edit_number id)
free_by (obj ∷ id ∷ part ∷ parts) = refl

pub set_by : (parts : List (List ℕ)) → set_of parts ≡ (two_numbers parts >>= λ (p : ℕ × ℕ). Ok (SetData p.0 p.1))
set_by [] = refl
set_by (state ∷ []) = refl
set_by (state ∷ value ∷ []) = both SetData (edit_number state) (edit_number value)
set_by (state ∷ value ∷ part ∷ parts) = refl
