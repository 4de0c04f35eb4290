-- Why a text that is escaped acts on nothing.
use Rattle.std.proofs.Common.{◌≡◌, ◌≢◌, ◌==◌, ◌<◌, ◌≤◌, ◌+◌, ◌-◌, ◌&&◌, ◌||◌, ℕ, zero, suc, Bool, true, false, List, [], ◌∷◌, ◌++◌, refl, sym, ap, ◌∙◌, subst, arith, nat_lt, not}
use Rattle.std.specs.Prelude.{if◌then◌else◌, codes}
use Rattle.std.specs.Fmt.{decimal, digits}
use Rattle.std.proofs.lemmas.List.Folds.{list_all-append}
use Rattle.std.specs.List.{list_all}
use Rattle.klp_markup.specs.Characters.{is_within, may_follow, byte_at, acts_by_two, acts_by_three, shown_bytes}
use mathlib.Core.Bool.{false≢true, true≢false}
use Rattle.klp_markup.specs.Escaped.{escaped_byte, first_text, kept_behind, escaped_behind}
use Rattle.klp_page_promises.specs.Harmless.{is_harmless, AreShown}

-- how many bytes a character has, by what holds of its first bytes
abbrev pub shown_if : Bool → Bool → Bool → Bool → Bool → Bool → Bool → Bool → ℕ
shown_if ascii begins is_two two_acts goes_on is_three three_acts goes_on_again =
    if ascii then 1
    else if begins then
    (if is_two then (if two_acts then 0 else 2)
    else if goes_on then (if is_three then (if three_acts then 0 else 3) else if goes_on_again then 4 else 0) else 0)
    else 0

second : (a p q r s t u v : Bool) → 1 < shown_if a p q r s t u v → p ≡ true
second true p q r s t u v e = absurd (omega (arith, e))
second false false q r s t u v e = absurd (omega (arith, e))
second false true q r s t u v e = refl

third : (a p q r s t u v : Bool) → 2 < shown_if a p q r s t u v → s ≡ true
third true p q r s t u v e = absurd (omega (arith, e))
third false false q r s t u v e = absurd (omega (arith, e))
third false true true true s t u v e = absurd (omega (arith, e))
third false true true false s t u v e = absurd (omega (arith, e))
third false true false r false t u v e = absurd (omega (arith, e))
third false true false r true t u v e = refl

fourth : (a p q r s t u v : Bool) → 3 < shown_if a p q r s t u v → v ≡ true
fourth true p q r s t u v e = absurd (omega (arith, e))
fourth false false q r s t u v e = absurd (omega (arith, e))
fourth false true true true s t u v e = absurd (omega (arith, e))
fourth false true true false s t u v e = absurd (omega (arith, e))
fourth false true false r false t u v e = absurd (omega (arith, e))
fourth false true false r true true true v e = absurd (omega (arith, e))
fourth false true false r true true false v e = absurd (omega (arith, e))
fourth false true false r true false u false e = absurd (omega (arith, e))
fourth false true false r true false u true e = refl

at_most : (a p q r s t u v : Bool) → shown_if a p q r s t u v ≤ 4
at_most true p q r s t u v = omega arith
at_most false false q r s t u v = omega arith
at_most false true true true s t u v = omega arith
at_most false true true false s t u v = omega arith
at_most false true false r false t u v = omega arith
at_most false true false r true true true v = omega arith
at_most false true false r true true false v = omega arith
at_most false true false r true false u false = omega arith
at_most false true false r true false u true = omega arith

by_two : (a p q r s t u v s' u' v' : Bool) → shown_if a p q r s t u v ≡ 2 → shown_if a p q r s' t u' v' ≡ 2
by_two true p q r s t u v s' u' v' e = absurd (omega (arith, e))
by_two false false q r s t u v s' u' v' e = absurd (omega (arith, e))
by_two false true true r s t u v s' u' v' e = e
by_two false true false r false t u v s' u' v' e = absurd (omega (arith, e))
by_two false true false r true true true v s' u' v' e = absurd (omega (arith, e))
by_two false true false r true true false v s' u' v' e = absurd (omega (arith, e))
by_two false true false r true false u false s' u' v' e = absurd (omega (arith, e))
by_two false true false r true false u true s' u' v' e = absurd (omega (arith, e))

by_three : (a p q r s t u v v' : Bool) → shown_if a p q r s t u v ≡ 3 → shown_if a p q r s t u v' ≡ 3
by_three true p q r s t u v v' e = absurd (omega (arith, e))
by_three false false q r s t u v v' e = absurd (omega (arith, e))
by_three false true true true s t u v v' e = absurd (omega (arith, e))
by_three false true true false s t u v v' e = absurd (omega (arith, e))
by_three false true false r false t u v v' e = absurd (omega (arith, e))
by_three false true false r true true u v v' e = e
by_three false true false r true false u false v' e = absurd (omega (arith, e))
by_three false true false r true false u true v' e = absurd (omega (arith, e))

alone : (p q r s t u v : Bool) → shown_if true p q r s t u v ≡ 1
alone p q r s t u v = refl

longer : (p q r s t u v : Bool) → shown_if false p q r s t u v ≢ 0 → 1 < shown_if false p q r s t u v
longer false q r s t u v e = absurd (e refl)
longer true true true s t u v e = absurd (e refl)
longer true true false s t u v e = omega arith
longer true false r false t u v e = absurd (e refl)
longer true false r true true true v e = absurd (e refl)
longer true false r true true false v e = omega arith
longer true false r true false u false e = absurd (e refl)
longer true false r true false u true e = omega arith

-- the same by the bytes
abbrev pub shown_by : ℕ → ℕ → ℕ → ℕ → ℕ
shown_by b x y z =
    shown_if (nat_lt b 128) (is_within 194 244 b && may_follow b x) (nat_lt b 224) (acts_by_two b x) (is_within 128 191 y) (nat_lt b 240)
    (acts_by_three b x y) (is_within 128 191 z)

shown_is : (b : ℕ) (bytes : List ℕ) → shown_bytes (b ∷ bytes) ≡ shown_by b (byte_at bytes 0) (byte_at bytes 1) (byte_at bytes 2)
shown_is b bytes = refl

may_go_on : (first byte : ℕ) → may_follow first byte ≡ true → is_within 128 191 byte ≡ true
may_go_on first byte e = grind arith

-- the next bytes, so many of them, go on with a character
abbrev pub GoOn : ℕ → List ℕ → Type 0
GoOn zero bytes = Unit {0}
GoOn (suc kept) [] = ⊥
GoOn (suc kept) (b ∷ bytes) = (is_within 128 191 b ≡ true) × GoOn kept bytes

go_on : (kept : ℕ) (bytes : List ℕ) → (0 < kept → is_within 128 191 (byte_at bytes 0) ≡ true) → (1 < kept → is_within 128 191 (byte_at bytes 1) ≡ true)
    → (2 < kept → is_within 128 191 (byte_at bytes 2) ≡ true) → kept ≤ 3 → GoOn kept bytes
go_on zero bytes first next last few = tt
go_on (suc kept) [] first next last few = absurd (false≢true (first (omega arith)))
go_on (suc kept) (b ∷ bytes) first next last few =
    (first (omega arith), go_on kept bytes (λ l. next (omega (arith, l))) (λ l. last (omega (arith, l))) (λ l. absurd (omega (arith, l, few))) (omega (arith, few)))

and_right : (p q : Bool) → p && q ≡ true → q ≡ true
and_right true q e = e
and_right false q e = absurd (false≢true e)

follow : (b : ℕ) (bytes : List ℕ) → GoOn (shown_bytes (b ∷ bytes) - 1) bytes
follow b bytes =
    let x = byte_at bytes 0 in let y = byte_at bytes 1 in let z = byte_at bytes 2 in
    let a = nat_lt b 128 in let p = is_within 194 244 b && may_follow b x in let q = nat_lt b 224 in let r = acts_by_two b x in
    let s = is_within 128 191 y in let t = nat_lt b 240 in let u = acts_by_three b x y in let v = is_within 128 191 z in
    go_on (shown_bytes (b ∷ bytes) - 1) bytes
    (λ l. may_go_on b x (and_right (is_within 194 244 b) (may_follow b x) (second a p q r s t u v (omega (arith, l)))))
    (λ l. third a p q r s t u v (omega (arith, l))) (λ l. fourth a p q r s t u v (omega (arith, l))) (omega (arith, at_most a p q r s t u v))

-- a byte of a character that is still to come is written as it is
keeps : (kept b : ℕ) (bytes : List ℕ) → escaped_behind (suc kept) (b ∷ bytes) ≡ b ∷ escaped_behind kept bytes
keeps kept b bytes = rw (is_kept, one_less) refl
  where
    is_kept : nat_lt 0 (suc kept) ≡ true
    is_kept = grind arith

    one_less : suc kept - 1 ≡ kept
    one_less = omega arith

byte_kept : (kept : ℕ) (bytes : List ℕ) (i : ℕ) → GoOn kept bytes → i < kept → byte_at (escaped_behind kept bytes) i ≡ byte_at bytes i
byte_kept zero bytes i h l = absurd (omega (arith, l))
byte_kept (suc kept) [] i h l = absurd h
byte_kept (suc kept) (b ∷ bytes) zero h l = ap (λ (text : List ℕ). byte_at text 0) (keeps kept b bytes)
byte_kept (suc kept) (b ∷ bytes) (suc i) h l =
    ap (λ (text : List ℕ). byte_at text (suc i)) (keeps kept b bytes) ∙ byte_kept kept bytes i h.1 (omega (arith, l))

-- whatever follows a character, it has as many bytes
same_behind : (b : ℕ) (bytes : List ℕ) → nat_lt b 128 ≡ false → shown_bytes (b ∷ bytes) ≢ 0
    → shown_bytes (b ∷ escaped_behind (shown_bytes (b ∷ bytes) - 1) bytes) ≡ shown_bytes (b ∷ bytes)
same_behind b bytes big some = by (shown_bytes (b ∷ bytes)) refl many (at_most a p q r s t u v) (follow b bytes)
  where
    x : ℕ
    x = byte_at bytes 0

    y : ℕ
    y = byte_at bytes 1

    z : ℕ
    z = byte_at bytes 2

    a : Bool
    a = nat_lt b 128

    p : Bool
    p = is_within 194 244 b && may_follow b x

    q : Bool
    q = nat_lt b 224

    r : Bool
    r = acts_by_two b x

    s : Bool
    s = is_within 128 191 y

    t : Bool
    t = nat_lt b 240

    u : Bool
    u = acts_by_three b x y

    v : Bool
    v = is_within 128 191 z

    many : 1 < shown_if a p q r s t u v
    many = subst (λ (c : Bool). shown_if c p q r s t u v ≢ 0 → 1 < shown_if c p q r s t u v) (sym big) (longer p q r s t u v) some

    by : (n : ℕ) → shown_if a p q r s t u v ≡ n → 1 < n → n ≤ 4 → GoOn (n - 1) bytes → shown_bytes (b ∷ escaped_behind (n - 1) bytes) ≡ n
    by zero e l m h = absurd (omega (arith, l))
    by (suc zero) e l m h = absurd (omega (arith, l))
    by (suc (suc zero)) e l m h =
        let rest = escaped_behind 1 bytes in
        subst (λ (w : ℕ). shown_by b w (byte_at rest 1) (byte_at rest 2) ≡ 2) (sym (byte_kept 1 bytes 0 h (omega arith)))
        (by_two a p q r s t u v (is_within 128 191 (byte_at rest 1)) (acts_by_three b x (byte_at rest 1)) (is_within 128 191 (byte_at rest 2)) e)
    by (suc (suc (suc zero))) e l m h =
        let rest = escaped_behind 2 bytes in
        subst (λ (w : ℕ). shown_by b w (byte_at rest 1) (byte_at rest 2) ≡ 3) (sym (byte_kept 2 bytes 0 h (omega arith)))
        (subst (λ (w : ℕ). shown_by b x w (byte_at rest 2) ≡ 3) (sym (byte_kept 2 bytes 1 h (omega arith)))
        (by_three a p q r s t u v (is_within 128 191 (byte_at rest 2)) e))
    by (suc (suc (suc (suc zero)))) e l m h =
        let rest = escaped_behind 3 bytes in
        subst (λ (w : ℕ). shown_by b w (byte_at rest 1) (byte_at rest 2) ≡ 4) (sym (byte_kept 3 bytes 0 h (omega arith)))
        (subst (λ (w : ℕ). shown_by b x w (byte_at rest 2) ≡ 4) (sym (byte_kept 3 bytes 1 h (omega arith)))
        (subst (λ (w : ℕ). shown_by b x y w ≡ 4) (sym (byte_kept 3 bytes 2 h (omega arith))) e))
    by (suc (suc (suc (suc (suc n))))) e l m h = absurd (omega (arith, m))

and_left : (p q : Bool) → p && q ≡ true → p ≡ true
and_left true q e = refl
and_left false q e = e

-- bytes below 128 are characters by themselves
abbrev pub is_ascii : ℕ → Bool
is_ascii b = nat_lt b 128

ascii_front : (front bytes : List ℕ) → list_all is_ascii front ≡ true → AreShown 0 bytes → AreShown 0 (front ++ bytes)
ascii_front [] bytes e h = h
ascii_front (b ∷ front) bytes e h =
    let one : shown_bytes (b ∷ front ++ bytes) ≡ 1 = rw (and_left (is_ascii b) (list_all is_ascii front) e) refl in
    subst (λ (n : ℕ). (0 < n) × AreShown (n - 1) (front ++ bytes)) (sym one)
    (omega arith, ascii_front front bytes (and_right (is_ascii b) (list_all is_ascii front) e) h)

-- a byte of what stands in for others
abbrev pub is_plain : ℕ → Bool
is_plain b = is_ascii b && is_harmless b

and_both : {p q : Bool} → p ≡ true → q ≡ true → p && q ≡ true
and_both e h = rw (e, h) refl

all_ascii : (bytes : List ℕ) → list_all is_plain bytes ≡ true → list_all is_ascii bytes ≡ true
all_ascii [] e = refl
all_ascii (b ∷ bytes) e =
    and_both (and_left (is_ascii b) (is_harmless b) (and_left (is_plain b) (list_all is_plain bytes) e))
    (all_ascii bytes (and_right (is_plain b) (list_all is_plain bytes) e))

all_harmless : (bytes : List ℕ) → list_all is_plain bytes ≡ true → list_all is_harmless bytes ≡ true
all_harmless [] e = refl
all_harmless (b ∷ bytes) e =
    and_both (and_right (is_ascii b) (is_harmless b) (and_left (is_plain b) (list_all is_plain bytes) e))
    (all_harmless bytes (and_right (is_plain b) (list_all is_plain bytes) e))

-- the pictures of the first control bytes, so many of them
abbrev pub picture : ℕ → List ℕ
picture b = codes "&#" ++ decimal (9216 + b) ++ codes ";"

are_pictures_plain : ℕ → Bool
are_pictures_plain zero = true
are_pictures_plain (suc b) = list_all is_plain (picture b) && are_pictures_plain b

below : (b n : ℕ) → nat_lt b n ≡ true → b < n
below b n e = grind arith

not_below : (b n : ℕ) → nat_lt b n ≡ false → n ≤ b
not_below b n e = grind arith

picture_below : (n b : ℕ) → are_pictures_plain n ≡ true → b < n → list_all is_plain (picture b) ≡ true
unfolding are_pictures_plain
picture_below zero b e l = absurd (omega (arith, l))
picture_below (suc n) b e l =
    by (λ h. picture_below n b (and_right (list_all is_plain (picture n)) (are_pictures_plain n) e) h) (nat_lt b n) refl
  where
    by : (b < n → list_all is_plain (picture b) ≡ true) → (t : Bool) → nat_lt b n ≡ t → list_all is_plain (picture b) ≡ true
    by earlier true h = earlier (below b n h)
    by earlier false h =
        let same : n ≡ b = omega (arith, not_below b n h, l) in
        subst (λ (m : ℕ). list_all is_plain (picture m) ≡ true) same (and_left (list_all is_plain (picture n)) (are_pictures_plain n) e)

picture_plain : (b : ℕ) → nat_lt b 32 ≡ true → list_all is_plain (picture b) ≡ true
unfolding are_pictures_plain digits
picture_plain b e = picture_below 32 b refl (below b 32 e)

plain_itself : (b : ℕ) → nat_lt b 128 ≡ true → (b == 34) ≡ false → (b == 39) ≡ false → (b == 60) ≡ false → (b == 62) ≡ false → nat_lt b 32 ≡ false → (b == 127) ≡ false
    → list_all is_plain (b ∷ []) ≡ true
plain_itself b a e39 e34 e60 e62 e32 e127 = grind arith

-- what stands in for a byte below 128
ascii_plain : (b : ℕ) → nat_lt b 128 ≡ true → list_all is_plain (escaped_byte b) ≡ true
ascii_plain b a = amp (b == 38) refl
  where
    del : (t : Bool) → (b == 127) ≡ t → (b == 38) ≡ false → (b == 60) ≡ false → (b == 62) ≡ false → (b == 34) ≡ false → (b == 39) ≡ false → (b == 10) ≡ false
        → nat_lt b 32 ≡ false → list_all is_plain (escaped_byte b) ≡ true
    del true e e38 e60 e62 e34 e39 e10 e32 = rw (e38, e60, e62, e34, e39, e10, e32, e) refl
    del false e e38 e60 e62 e34 e39 e10 e32 = rw (e38, e60, e62, e34, e39, e10, e32, e) (plain_itself b a e34 e39 e60 e62 e32 e)

    control : (t : Bool) → nat_lt b 32 ≡ t → (b == 38) ≡ false → (b == 60) ≡ false → (b == 62) ≡ false → (b == 34) ≡ false → (b == 39) ≡ false → (b == 10) ≡ false
        → list_all is_plain (escaped_byte b) ≡ true
    control true e e38 e60 e62 e34 e39 e10 = rw (e38, e60, e62, e34, e39, e10, e) (picture_plain b e)
    control false e e38 e60 e62 e34 e39 e10 = del (b == 127) refl e38 e60 e62 e34 e39 e10 e

    feed : (t : Bool) → (b == 10) ≡ t → (b == 38) ≡ false → (b == 60) ≡ false → (b == 62) ≡ false → (b == 34) ≡ false → (b == 39) ≡ false
        → list_all is_plain (escaped_byte b) ≡ true
    feed true e e38 e60 e62 e34 e39 = rw (e38, e60, e62, e34, e39, e) (grind arith)
    feed false e e38 e60 e62 e34 e39 = control (nat_lt b 32) refl e38 e60 e62 e34 e39 e

    apostrophe : (t : Bool) → (b == 39) ≡ t → (b == 38) ≡ false → (b == 60) ≡ false → (b == 62) ≡ false → (b == 34) ≡ false → list_all is_plain (escaped_byte b) ≡ true
    apostrophe true e e38 e60 e62 e34 = rw (e38, e60, e62, e34, e) refl
    apostrophe false e e38 e60 e62 e34 = feed (b == 10) refl e38 e60 e62 e34 e

    quote : (t : Bool) → (b == 34) ≡ t → (b == 38) ≡ false → (b == 60) ≡ false → (b == 62) ≡ false → list_all is_plain (escaped_byte b) ≡ true
    quote true e e38 e60 e62 = rw (e38, e60, e62, e) refl
    quote false e e38 e60 e62 = apostrophe (b == 39) refl e38 e60 e62 e

    greater : (t : Bool) → (b == 62) ≡ t → (b == 38) ≡ false → (b == 60) ≡ false → list_all is_plain (escaped_byte b) ≡ true
    greater true e e38 e60 = rw (e38, e60, e) refl
    greater false e e38 e60 = quote (b == 34) refl e38 e60 e

    less : (t : Bool) → (b == 60) ≡ t → (b == 38) ≡ false → list_all is_plain (escaped_byte b) ≡ true
    less true e e38 = rw (e38, e) refl
    less false e e38 = greater (b == 62) refl e38 e

    amp : (t : Bool) → (b == 38) ≡ t → list_all is_plain (escaped_byte b) ≡ true
    amp true e = rw e refl
    amp false e = less (b == 60) refl e

-- a byte from 128 on stands for itself
big_itself : (b : ℕ) → nat_lt b 128 ≡ false → escaped_byte b ≡ b ∷ []
big_itself b big =
    rw (
      isnt 38 (omega arith),
      isnt 60 (omega arith),
      isnt 62 (omega arith),
      isnt 34 (omega arith),
      isnt 39 (omega arith),
      isnt 10 (omega arith),
      no_control,
      isnt 127 (omega arith),
    ) refl
  where
    isnt : (k : ℕ) → k < 128 → (b == k) ≡ false
    isnt k l = grind arith

    no_control : nat_lt b 32 ≡ false
    no_control = grind arith

big_harmless : (b : ℕ) → nat_lt b 128 ≡ false → is_harmless b ≡ true
big_harmless b big = grind arith

kept_harmless : (b : ℕ) → is_within 128 191 b ≡ true → is_harmless b ≡ true
kept_harmless b e = grind arith

-- the first byte of a text, where no character before is still to come
no_character : (b : ℕ) (bytes : List ℕ) → shown_bytes (b ∷ bytes) ≡ 0
    → escaped_behind 0 (b ∷ bytes) ≡ codes "&#65533;" ++ escaped_behind 0 bytes
no_character b bytes e = rw e refl

a_character : (b : ℕ) (bytes : List ℕ) → shown_bytes (b ∷ bytes) ≢ 0
    → escaped_behind 0 (b ∷ bytes) ≡ escaped_byte b ++ escaped_behind (shown_bytes (b ∷ bytes) - 1) bytes
a_character b bytes some = rw (isnt_zero (shown_bytes (b ∷ bytes)) some) refl
  where
    isnt_zero : (n : ℕ) → n ≢ 0 → (n == 0) ≡ false
    isnt_zero n some = grind arith

is_zero : (n : ℕ) → (n == 0) ≡ true → n ≡ 0
is_zero n e = grind arith

isnt_zero : (n : ℕ) → (n == 0) ≡ false → n ≢ 0
isnt_zero zero e z = absurd (true≢false e)
isnt_zero (suc n) e z = omega (arith, z)

acts_not : (kept : ℕ) (text : List ℕ) → GoOn kept text → AreShown kept (escaped_behind kept text)
acts_not zero [] h = refl
acts_not (suc kept) [] h = absurd h
acts_not (suc kept) (b ∷ bytes) h = subst (AreShown (suc kept)) (sym (keeps kept b bytes)) (acts_not kept bytes h.1)
acts_not zero (b ∷ bytes) h =
    by (acts_not 0 bytes tt) (acts_not (shown_bytes (b ∷ bytes) - 1) bytes (follow b bytes)) (shown_bytes (b ∷ bytes) == 0) refl (nat_lt b 128) refl
  where
    rest : List ℕ
    rest = escaped_behind (shown_bytes (b ∷ bytes) - 1) bytes

    by : AreShown 0 (escaped_behind 0 bytes) → AreShown (shown_bytes (b ∷ bytes) - 1) rest → (t : Bool) → (shown_bytes (b ∷ bytes) == 0) ≡ t
        → (a : Bool) → nat_lt b 128 ≡ a → AreShown 0 (escaped_behind 0 (b ∷ bytes))
    by none some true e a l =
        subst (AreShown 0) (sym (no_character b bytes (is_zero (shown_bytes (b ∷ bytes)) e))) (ascii_front (codes "&#65533;") (escaped_behind 0 bytes) refl none)
    by none some false e true l =
        let one : shown_bytes (b ∷ bytes) - 1 ≡ 0 = rw l refl in
        subst (AreShown 0) (sym (a_character b bytes (isnt_zero (shown_bytes (b ∷ bytes)) e)))
        (ascii_front (escaped_byte b) rest (all_ascii (escaped_byte b) (ascii_plain b l)) (subst (λ (n : ℕ). AreShown n rest) one some))
    by none some false e false l =
        let many = isnt_zero (shown_bytes (b ∷ bytes)) e in
        let same = same_behind b bytes l many in
        subst (AreShown 0) (sym (a_character b bytes many ∙ ap (λ (front : List ℕ). front ++ rest) (big_itself b l)))
        (subst (λ (n : ℕ). (0 < n) × AreShown (n - 1) rest) (sym same) (omega (arith, many_is many), some))
      where
        many_is : shown_bytes (b ∷ bytes) ≢ 0 → 0 < shown_bytes (b ∷ bytes)
        many_is some = grind arith

all_harmless_behind : (kept : ℕ) (text : List ℕ) → GoOn kept text → list_all is_harmless (escaped_behind kept text) ≡ true
all_harmless_behind zero [] h = refl
all_harmless_behind (suc kept) [] h = absurd h
all_harmless_behind (suc kept) (b ∷ bytes) h =
    subst (λ (text : List ℕ). list_all is_harmless text ≡ true) (sym (keeps kept b bytes)) (and_both (kept_harmless b h.0) (all_harmless_behind kept bytes h.1))
all_harmless_behind zero (b ∷ bytes) h =
    by (all_harmless_behind 0 bytes tt) (all_harmless_behind (shown_bytes (b ∷ bytes) - 1) bytes (follow b bytes)) (shown_bytes (b ∷ bytes) == 0) refl
    (nat_lt b 128) refl
  where
    rest : List ℕ
    rest = escaped_behind (shown_bytes (b ∷ bytes) - 1) bytes

    both : (front back : List ℕ) → list_all is_harmless front ≡ true → list_all is_harmless back ≡ true → list_all is_harmless (front ++ back) ≡ true
    both front back e f = list_all-append is_harmless front back ∙ and_both e f

    by : list_all is_harmless (escaped_behind 0 bytes) ≡ true → list_all is_harmless rest ≡ true → (t : Bool) → (shown_bytes (b ∷ bytes) == 0) ≡ t
        → (a : Bool) → nat_lt b 128 ≡ a → list_all is_harmless (escaped_behind 0 (b ∷ bytes)) ≡ true
    by none some true e a l =
        subst (λ (text : List ℕ). list_all is_harmless text ≡ true) (sym (no_character b bytes (is_zero (shown_bytes (b ∷ bytes)) e)))
        (both (codes "&#65533;") (escaped_behind 0 bytes) refl none)
    by none some false e true l =
        subst (λ (text : List ℕ). list_all is_harmless text ≡ true) (sym (a_character b bytes (isnt_zero (shown_bytes (b ∷ bytes)) e)))
        (both (escaped_byte b) rest (all_harmless (escaped_byte b) (ascii_plain b l)) some)
    by none some false e false l =
        subst (λ (text : List ℕ). list_all is_harmless text ≡ true)
        (sym (a_character b bytes (isnt_zero (shown_bytes (b ∷ bytes)) e) ∙ ap (λ (front : List ℕ). front ++ rest) (big_itself b l)))
        (and_both (big_harmless b l) some)

pub text_acts_not : (text : List ℕ) → AreShown 0 (escaped_behind 0 text)
text_acts_not text = acts_not 0 text tt

pub text_is_harmless : (text : List ℕ) → list_all is_harmless (escaped_behind 0 text) ≡ true
text_is_harmless text = all_harmless_behind 0 text tt
