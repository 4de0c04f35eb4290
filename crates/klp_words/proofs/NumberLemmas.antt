-- Numbers in decimal and hexadecimal digits.
use Rattle.std.proofs.Common.{◌≡◌, ℕ, ℤ, pos, neg_ℤ, ◌+◌, ◌*◌, ◌==◌, ◌<◌, ◌≤◌, ◌^◌, ◌≢◌, ◌&&◌, ◌||◌, Bool, true, false, nat_lt, if◌then◌else◌, List, [], ◌∷◌, length, get_or, take, Some, None, option_map, Result, Ok, Err, refl, ap, ◌∙◌, add-one, arith, rules}
use Rattle.std.proofs.Math.Nat.{pow-le-pow_right, pow-suc}
use Rattle.std.proofs.lemmas.Bool.Decides.{nat_tests}
use Rattle.std.proofs.lemmas.List.Folds.{list_all_more}
use Rattle.std.proofs.lemmas.Str.Parse.{IsNumeralModel, numerals_by_value, parse_signed_minus, parse_signed_plain, digits_value-take-le}
use Rattle.std.proofs.lemmas.Int.Digits.{digits_value_more}
use Rattle.std.specs.Result.{OkIff, result_ok}
use Rattle.std.specs.List.{list_all}
use Rattle.std.specs.Char.{is_ascii_digit, is_ascii_hexdigit, digit_value}
use Rattle.std.specs.Str.{IsAscii}
use Rattle.std.specs.Str.Parse.{digits_value, ParsesSigned}
use Rattle.std.specs.Int.{w32}
use Rattle.std.proofs.lemmas.Bool.{and_parts}
use Rattle.klp_words.specs.Words.{is_decimal, decimal_of, status_of}
use Rattle.klp_words.proofs.WordLemmas.{ascii_from_all}

pub all_more : (p : ℕ → Bool) (xs : List ℕ) (i : ℕ) → i < length xs → list_all p (take i xs) ≡ true → p (get_or xs i 0) ≡ true → list_all p (take (i + 1) xs) ≡ true
all_more p xs i inside before here = list_all_more p xs i 0 inside ∙ rw (before, here) refl

-- ---- hexadecimal numbers

hex_below : (b : ℕ) → is_ascii_hexdigit b ≡ true → digit_value b < 16
hex_below b h = grind (arith, nat_tests)

-- a digit, and what it stands for
pub digit_from_some : (b d : ℕ) → Some d ≡ (if is_ascii_hexdigit b then Some (digit_value b) else None) → (is_ascii_hexdigit b ≡ true) × (d ≡ digit_value b) × (d < 16)
digit_from_some b d h = by (is_ascii_hexdigit b) refl h
  where
    by : (t : Bool) → is_ascii_hexdigit b ≡ t → Some d ≡ (if t then Some (digit_value b) else None) → (is_ascii_hexdigit b ≡ true) × (d ≡ digit_value b) × (d < 16)
    by true e h = let same : d ≡ digit_value b = cc in (e, same, omega (arith, hex_below b e))
    by false e h = absurd cc

-- behind fewer than 16 digits there is room for one more
pub hexadecimal_room : (n i : ℕ) → i < 16 → n < 16 ^ i → n < 16 ^ 15
hexadecimal_room n i few small = let bound : 16 ^ i ≤ 16 ^ 15 = pow-le-pow_right {n = 16} (omega arith) {i = i} {j = 15} (omega arith) in omega (arith, small, bound)

pub hexadecimal_step : (n d i : ℕ) → n < 16 ^ i → d < 16 → n * 16 + d < 16 ^ (i + 1)
hexadecimal_step n d i small digit = let more : 16 ^ (i + 1) ≡ 16 ^ i * 16 = rw add-one (pow-suc 16 i) in omega (arith, more)

-- ---- decimal numbers

pub own : IsNumeralModel (λ ds. list_all is_ascii_digit ds ≡ true) (digits_value 10)
own = numerals_by_value _ (search rules)

pub is_decimal_at : (limit : ℕ) (word : List ℕ) → 0 < length word → list_all is_ascii_digit word ≡ true → digits_value 10 word < limit → is_decimal limit word ≡ true
is_decimal_at limit word some digits small = grind (arith, nat_tests)

decimal_some : (limit : ℕ) (word : List ℕ) → is_decimal limit word ≡ true → 0 < length word
decimal_some limit word h =
    let test = (and_parts (nat_lt 0 (length word)) (list_all is_ascii_digit word) (and_parts _ (nat_lt (digits_value 10 word) limit) h).0).0 in
    grind (arith, nat_tests)

pub decimal_digits : (limit : ℕ) (word : List ℕ) → is_decimal limit word ≡ true → list_all is_ascii_digit word ≡ true
decimal_digits limit word h = (and_parts (nat_lt 0 (length word)) (list_all is_ascii_digit word) (and_parts _ (nat_lt (digits_value 10 word) limit) h).0).1

decimal_small : (limit : ℕ) (word : List ℕ) → is_decimal limit word ≡ true → digits_value 10 word < limit
decimal_small limit word h =
    let test = (and_parts (nat_lt 0 (length word) && list_all is_ascii_digit word) (nat_lt (digits_value 10 word) limit) h).1 in
    grind (arith, nat_tests)

-- a result that is the value exactly where the test passes
answers : {T E : Type 0} (f : ℕ → T) (n : ℕ) (b : Bool) (Q : Type 0) (r : Result T E) → OkIff r Q (f n) → (Q → b ≡ true) → (b ≡ true → Q)
    → result_ok r ≡ option_map f (if b then Some n else None)
answers f n true Q (Ok x) h to from = ap Some h.1
answers f n true Q (Err e) h to from = absurd (h (from refl))
answers f n false Q (Ok x) h to from = let no : false ≡ true = to h.0 in absurd cc
answers f n false Q (Err e) h to from = refl

-- without digits alone there is no number
pub no_decimal : (limit : ℕ) (word : List ℕ) → list_all is_ascii_digit word ≡ false → None ≡ decimal_of limit word
no_decimal limit word h = by (is_decimal limit word) refl
  where
    by : (b : Bool) → is_decimal limit word ≡ b → None ≡ (if b then Some (digits_value 10 word) else None)
    by false e = refl
    by true e = let yes = decimal_digits limit word e in absurd cc

-- where the first digits don't fit, the whole doesn't
pub too_great : (limit : ℕ) (word : List ℕ) (i : ℕ) → i < length word → limit ≤ digits_value 10 (take i word) * 10 + digit_value (get_or word i 0) → None ≡ decimal_of limit word
too_great limit word i inside large =
    let whole : limit ≤ digits_value 10 word = omega (arith, digits_value_more 10 word i inside, digits_value-take-le 10 word (i + 1) (omega arith)) in
    by (is_decimal limit word) refl whole
  where
    by : (b : Bool) → is_decimal limit word ≡ b → limit ≤ digits_value 10 word → None ≡ (if b then Some (digits_value 10 word) else None)
    by false e whole = refl
    by true e whole = absurd (omega (arith, decimal_small limit word e))

-- ---- a status

abbrev pub is_status_byte : ℕ → Bool
is_status_byte b = is_ascii_digit b || b == 45

status_byte_low : (b : ℕ) → is_status_byte b ≡ true → b < 128
status_byte_low b h = grind (arith, nat_tests)

pub ascii_from_status : (word : List ℕ) → list_all is_status_byte word ≡ true → IsAscii word
ascii_from_status word h = ascii_from_all is_status_byte status_byte_low word h

status_from_digits : (word : List ℕ) → list_all is_ascii_digit word ≡ true → list_all is_status_byte word ≡ true
status_from_digits [] h = refl
status_from_digits (b ∷ bs) h =
    let first = (and_parts (is_ascii_digit b) (list_all is_ascii_digit bs) h).0 in
    let rest = status_from_digits bs (and_parts (is_ascii_digit b) (list_all is_ascii_digit bs) h).1 in
    rw (first, rest) refl

negative_is : {E : Type 0} (b : ℕ) (bs : List ℕ) (r : Result ℤ E) → b ≡ 45 → ParsesSigned w32 10 (b ∷ bs) r
    → result_ok r ≡ option_map (λ n. neg_ℤ (pos n)) (decimal_of (2 ^ 31 + 1) bs)
negative_is b bs r minus h =
    answers (λ n. neg_ℤ (pos n)) (digits_value 10 bs) (is_decimal (2 ^ 31 + 1) bs) ((list_all is_ascii_digit bs ≡ true) × (0 < length bs) × (digits_value 10 bs ≤ 2 ^ 31)) r
    (parse_signed_minus own w32 (b ∷ bs) r h minus)
    (λ q. is_decimal_at (2 ^ 31 + 1) bs q.1 q.0 (omega (arith, q.2)))
    (λ yes. (decimal_digits (2 ^ 31 + 1) bs yes, decimal_some (2 ^ 31 + 1) bs yes, omega (arith, decimal_small (2 ^ 31 + 1) bs yes)))

plain_is : {E : Type 0} (b : ℕ) (bs : List ℕ) (r : Result ℤ E) → b ≢ 43 → b ≢ 45 → ParsesSigned w32 10 (b ∷ bs) r
    → result_ok r ≡ option_map pos (decimal_of (2 ^ 31) (b ∷ bs))
plain_is b bs r plus minus h =
    answers pos (digits_value 10 (b ∷ bs)) (is_decimal (2 ^ 31) (b ∷ bs)) ((list_all is_ascii_digit (b ∷ bs) ≡ true) × (0 < length (b ∷ bs)) × (digits_value 10 (b ∷ bs) < 2 ^ 31)) r
    (parse_signed_plain own w32 (b ∷ bs) r h plus minus)
    (λ q. is_decimal_at (2 ^ 31) (b ∷ bs) q.1 q.0 q.2)
    (λ yes. (decimal_digits (2 ^ 31) (b ∷ bs) yes, decimal_some (2 ^ 31) (b ∷ bs) yes, decimal_small (2 ^ 31) (b ∷ bs) yes))

pub status_is : {E : Type 0} (word : List ℕ) (r : Result ℤ E) → list_all is_status_byte word ≡ true → ParsesSigned w32 10 word r → result_ok r ≡ status_of word
status_is [] r bytes h = by r (parse_signed_plain own w32 [] r h (λ e. cc) (λ e. cc))
  where
    by : {E : Type 0} (r : Result ℤ E) → OkIff r ((list_all is_ascii_digit [] ≡ true) × (0 < 0) × (digits_value 10 [] < 2 ^ 31)) (pos (digits_value 10 [])) → result_ok r ≡ None
    by (Ok x) h = absurd (omega (arith, h.0.1))
    by (Err e) h = refl
status_is (b ∷ bs) r bytes h = by (b == 45) refl
  where
    first : is_status_byte b ≡ true
    first = (and_parts (is_status_byte b) (list_all is_status_byte bs) bytes).0

    by : (t : Bool) → (b == 45) ≡ t
        → result_ok r ≡ (if t then option_map (λ n. neg_ℤ (pos n)) (decimal_of (2 ^ 31 + 1) bs) else option_map pos (decimal_of (2 ^ 31) (b ∷ bs)))
    by true e = negative_is b bs r (grind (arith, nat_tests)) h
    by false e = plain_is b bs r (λ plus. grind (arith, nat_tests)) (λ minus. grind (arith, nat_tests)) h

-- with another byte there is no status
pub no_status : (word : List ℕ) → list_all is_status_byte word ≡ false → None ≡ status_of word
no_status [] h = refl
no_status (b ∷ bs) h = by (b == 45) refl
  where
    none_behind : is_status_byte b ≡ true → list_all is_ascii_digit bs ≡ false
    none_behind first = rest (list_all is_ascii_digit bs) refl
      where
        rest : (d : Bool) → list_all is_ascii_digit bs ≡ d → d ≡ false
        rest false e = refl
        rest true e = let all = status_from_digits bs e in let whole : list_all is_status_byte (b ∷ bs) ≡ true = rw (first, all) refl in absurd cc

    none_here : list_all is_ascii_digit (b ∷ bs) ≡ false
    none_here = rest (list_all is_ascii_digit (b ∷ bs)) refl
      where
        rest : (d : Bool) → list_all is_ascii_digit (b ∷ bs) ≡ d → d ≡ false
        rest false e = refl
        rest true e = let all = status_from_digits (b ∷ bs) e in absurd cc

    by : (t : Bool) → (b == 45) ≡ t
        → None ≡ (if t then option_map (λ n. neg_ℤ (pos n)) (decimal_of (2 ^ 31 + 1) bs) else option_map pos (decimal_of (2 ^ 31) (b ∷ bs)))
    by true e = ap (option_map (λ n. neg_ℤ (pos n))) (no_decimal (2 ^ 31 + 1) bs (none_behind (grind (arith, nat_tests))))
    by false e = ap (option_map pos) (no_decimal (2 ^ 31) (b ∷ bs) none_here)
