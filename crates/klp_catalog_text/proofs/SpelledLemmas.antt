-- A script is read back from its words.
use Rattle.std.proofs.Common.{◌≡◌, ℕ, ℤ, suc, pos, negsuc, neg_ℤ, ◌+◌, ◌<◌, ◌^◌, ◌==◌, Bool, true, false, not, List, [], ◌∷◌, length, map, Some, Ok, refl, ap, ◌∙◌, arith, rules}
use Rattle.std.specs.Prelude.{FitsSigned, codes}
use Rattle.std.proofs.lemmas.Bool.Decides.{nat_tests}
use Rattle.std.proofs.lemmas.List.Elements.{All-cons, All-nil}
use Rattle.std.proofs.lemmas.List.Splits.{slice_split_at, slice_split_none}
use Rattle.std.proofs.lemmas.Fmt.{decimal_nonempty, digits_decimal, digits_value-decimal}
use Rattle.std.specs.Char.{is_ascii_digit}
use Rattle.std.specs.Fmt.{decimal, signed_decimal}
use Rattle.std.specs.Int.{w32}
use Rattle.std.specs.List.{All, AllByRecursion, list_all, slice_split, join_with_byte}
use Rattle.std.specs.Str.Parse.{digits_value}
use Rattle.klp_types.specs.declared.edit.Edit.{Edit}
use Rattle.klp_types.specs.declared.edit.Edit.TheVariants.{Alloc, Free, FreeAll, SetData, TakePrev}
use Rattle.klp_types.specs.Script.{Script, is_success}
use Rattle.klp_types.specs.World.{ShadowValue}
use Rattle.klp_words.specs.Words.{status_of, value_text}
use Rattle.klp_catalog_text.specs.Edits.{edit_number, edit_value, alloc_of, free_of, free_all_of, set_of, take_prev_of, edit_of_parts, edit_of, edits_of, failure_of, script_with, script_of}
use Rattle.klp_catalog_text.specs.Spelled.{edit_word, script_words, IsEdit, IsScript}
use Rattle.klp_catalog_text.proofs.ValueLemmas.{value_read, in_value}
use Rattle.std.proofs.lemmas.Str.Parse.{IsNumeralModel, numerals_by_value}
use Rattle.std.proofs.lemmas.Bool.{and_parts}
use Rattle.klp_words.specs.Words.{is_decimal}

-- ---- digits

own : IsNumeralModel (λ ds. list_all is_ascii_digit ds ≡ true) (digits_value 10)
own = numerals_by_value _ (search rules)

is_decimal_at : (limit : ℕ) (word : List ℕ) → 0 < length word → list_all is_ascii_digit word ≡ true → digits_value 10 word < limit → is_decimal limit word ≡ true
is_decimal_at limit word some digits small = grind (arith, nat_tests)

-- ---- words without a colon

no_colon : (b : ℕ) → not (b == 58) ≡ true → (b == 58) ≡ false
no_colon b h = grind (arith, nat_tests)

colon_no_digit : (b : ℕ) → is_ascii_digit b ≡ true → (b == 58) ≡ false
colon_no_digit b h = grind (arith, nat_tests)

no_colon_in : (word : List ℕ) → list_all (λ b. not (b == 58)) word ≡ true → All (λ b. (b == 58) ≡ false) word
no_colon_in [] h = All-nil (λ b. (b == 58) ≡ false)
no_colon_in (b ∷ bs) h =
    All-cons (λ b. (b == 58) ≡ false) b bs (no_colon b (and_parts (not (b == 58)) (list_all (λ b. not (b == 58)) bs) h).0)
    (no_colon_in bs (and_parts (not (b == 58)) (list_all (λ b. not (b == 58)) bs) h).1)

no_colon_in_digits : (word : List ℕ) → list_all is_ascii_digit word ≡ true → All (λ b. (b == 58) ≡ false) word
no_colon_in_digits [] h = All-nil (λ b. (b == 58) ≡ false)
no_colon_in_digits (b ∷ bs) h =
    All-cons (λ b. (b == 58) ≡ false) b bs (colon_no_digit b (and_parts (is_ascii_digit b) (list_all is_ascii_digit bs) h).0)
    (no_colon_in_digits bs (and_parts (is_ascii_digit b) (list_all is_ascii_digit bs) h).1)

in_decimal : (n : ℕ) → n < 2 ^ 64 → All (λ b. (b == 58) ≡ false) (decimal n)
in_decimal n h = no_colon_in_digits (decimal n) (digits_decimal own n h)

-- such words come back from a word with colons between them
split_join : (x : List ℕ) (xs : List (List ℕ)) → AllByRecursion (All (λ b. (b == 58) ≡ false)) (x ∷ xs) → slice_split (λ b. b == 58) (join_with_byte 58 (x ∷ xs)) ≡ x ∷ xs
split_join x [] all = slice_split_none (λ b. b == 58) x all.0
split_join x (y ∷ ys) all = slice_split_at (λ b. b == 58) x 58 (join_with_byte 58 (y ∷ ys)) all.0 refl ∙ ap (λ l. x ∷ l) (split_join y ys all.1)

-- ---- numbers

number_read : (n : ℕ) → n < 2 ^ 64 → edit_number (decimal n) ≡ Ok n
number_read n h =
    let value = digits_value-decimal own n h in
    let yes = is_decimal_at (2 ^ 64) (decimal n) (decimal_nonempty n h) (digits_decimal own n h) (omega (arith, h, value)) in
    rw yes (ap Ok value)

plain_status : (word : List ℕ) → 0 < length word → list_all is_ascii_digit word ≡ true → digits_value 10 word < 2 ^ 31 → status_of word ≡ Some (pos (digits_value 10 word))
plain_status [] some digits small = absurd (omega arith)
plain_status (b ∷ bs) some digits small =
    let minus = digit_no_minus b (and_parts (is_ascii_digit b) (list_all is_ascii_digit bs) digits).0 in
    rw (minus, is_decimal_at (2 ^ 31) (b ∷ bs) some digits small) refl
  where
    digit_no_minus : (b : ℕ) → is_ascii_digit b ≡ true → (b == 45) ≡ false
    digit_no_minus b h = grind (arith, nat_tests)

status_read : (status : ℤ) → FitsSigned w32 status → status_of (signed_decimal status) ≡ Some status
status_read (pos n) h =
    let small : n < 2 ^ 31 = h.sfits in
    let wide : n < 2 ^ 64 = omega (arith, small) in
    let value = digits_value-decimal own n wide in
    plain_status (decimal n) (decimal_nonempty n wide) (digits_decimal own n wide) (omega (arith, small, value)) ∙ ap (λ m. Some (pos m)) value
status_read (negsuc n) h =
    let small : n < 2 ^ 31 = h.sfits in
    let wide : suc n < 2 ^ 64 = omega (arith, small) in
    let value = digits_value-decimal own (suc n) wide in
    let yes = is_decimal_at (2 ^ 31 + 1) (decimal (suc n)) (decimal_nonempty (suc n) wide) (digits_decimal own (suc n) wide) (omega (arith, small, value)) in
    rw yes (ap (λ m. Some (neg_ℤ (pos m))) value)

-- ---- edits

edit_read : (edit : Edit) → IsEdit edit → edit_of (edit_word edit) ≡ Ok edit
edit_read (Alloc key value) h =
    ap edit_of_parts (split_join (codes "alloc") (decimal key.obj ∷ decimal key.id ∷ value_text value ∷ []) (no_colon_in (codes "alloc") refl, (in_decimal key.obj h.0, (in_decimal key.id h.1, (in_value value h.2, tt)))))
    ∙ read (decimal key.obj) (decimal key.id) (value_text value) key.obj key.id value (number_read key.obj h.0) (number_read key.id h.1) (value_read value h.2)
  where
    read : (a b c : List ℕ) (o i : ℕ) (v : ShadowValue) → edit_number a ≡ Ok o → edit_number b ≡ Ok i → edit_value c ≡ Ok v → alloc_of (a ∷ b ∷ c ∷ []) ≡ Ok (Alloc (record { obj = o; id = i }) v)
    read a b c o i v e f g = rw (e, f, g) refl
edit_read (Free key) h =
    ap edit_of_parts (split_join (codes "free") (decimal key.obj ∷ decimal key.id ∷ []) (no_colon_in (codes "free") refl, (in_decimal key.obj h.0, (in_decimal key.id h.1, tt))))
    ∙ read (decimal key.obj) (decimal key.id) key.obj key.id (number_read key.obj h.0) (number_read key.id h.1)
  where
    read : (a b : List ℕ) (o i : ℕ) → edit_number a ≡ Ok o → edit_number b ≡ Ok i → free_of (a ∷ b ∷ []) ≡ Ok (Free (record { obj = o; id = i }))
    read a b o i e f = rw (e, f) refl
edit_read (FreeAll id) h =
    ap edit_of_parts (split_join (codes "freeall") (decimal id ∷ []) (no_colon_in (codes "freeall") refl, (in_decimal id h, tt))) ∙ read (decimal id) id (number_read id h)
  where
    read : (a : List ℕ) (i : ℕ) → edit_number a ≡ Ok i → free_all_of (a ∷ []) ≡ Ok (FreeAll i)
    read a i e = rw e refl
edit_read (SetData state value) h =
    ap edit_of_parts (split_join (codes "set") (decimal state ∷ decimal value ∷ []) (no_colon_in (codes "set") refl, (in_decimal state h.0, (in_decimal value h.1, tt))))
    ∙ read (decimal state) (decimal value) state value (number_read state h.0) (number_read value h.1)
  where
    read : (a b : List ℕ) (s v : ℕ) → edit_number a ≡ Ok s → edit_number b ≡ Ok v → set_of (a ∷ b ∷ []) ≡ Ok (SetData s v)
    read a b s v e f = rw (e, f) refl
edit_read (TakePrev state) h =
    ap edit_of_parts (split_join (codes "takeprev") (decimal state ∷ []) (no_colon_in (codes "takeprev") refl, (in_decimal state h, tt))) ∙ read (decimal state) state (number_read state h)
  where
    read : (a : List ℕ) (s : ℕ) → edit_number a ≡ Ok s → take_prev_of (a ∷ []) ≡ Ok (TakePrev s)
    read a s e = rw e refl

edits_read : (edits : List Edit) → AllByRecursion IsEdit edits → edits_of (map edit_word edits) ≡ Ok edits
edits_read [] all = refl
edits_read (edit ∷ edits) all = more (edit_word edit) (map edit_word edits) edit edits (edit_read edit all.0) (edits_read edits all.1)
  where
    more : (word : List ℕ) (words : List (List ℕ)) (e : Edit) (es : List Edit) → edit_of word ≡ Ok e → edits_of words ≡ Ok es → edits_of (word ∷ words) ≡ Ok (e ∷ es)
    more word words e es f g = rw (f, g) refl

failure_read : (status : ℤ) (edits : List Edit) → edits ≡ [] → failure_of status (map edit_word edits) ≡ Ok (record { edits = edits; status = status })
failure_read status [] h = refl
failure_read status (edit ∷ edits) h = absurd cc

pub script_read : (script : Script) → IsScript script → script_of (script_words script) ≡ Ok script
script_read script h =
    ap (λ o. script_with o (map edit_word script.edits)) (status_read script.status h.status) ∙ by (is_success script.status) refl
  where
    by : (b : Bool) → is_success script.status ≡ b → script_with (Some script.status) (map edit_word script.edits) ≡ Ok script
    by true e = let edits = edits_read script.edits h.edits in rw (e, edits) refl
    by false e = rw e (failure_read script.status script.edits (h.failed e))
