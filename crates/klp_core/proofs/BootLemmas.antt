-- What a manager keeps when it is booted.
use Rattle.std.proofs.Common.{◌≡◌, ℕ, zero, suc, ◌+◌, ◌<◌, Bool, true, false, List, [], ◌∷◌, length, Option, Some, None, refl, sym, ap, ◌∙◌, eqb, arith}
use Rattle.std.specs.Prelude.{not, nat_lt, slice_get, option_map}
use Rattle.std.specs.Option.{option_eq}
use Rattle.std.specs.Cmp.{nat_eq_equiv}
use Rattle.std.proofs.lemmas.List.{length-map}
use Rattle.std.proofs.lemmas.Option.{slice_get-map}
use Rattle.klp_types.specs.Image.{Object}
use Rattle.klp_modules.specs.Names.{ObjectNames}
use Rattle.klp_core.specs.Boot.{name_counts, symbol_counts}
use borrow.Author.Tests.{eqb-true, ltb-true, ltb-false, not-false}

-- lists of numbers that agree

abbrev pub Agree : ℕ → List ℕ → List ℕ → Type 0
Agree n xs ys = (k : ℕ) → k < n → slice_get xs k ≡ slice_get ys k

pub agree_all : (n : ℕ) (xs ys : List ℕ) → length ys < n → Agree n xs ys → xs ≡ ys
agree_all zero xs ys few h = absurd (omega arith)
agree_all (suc n) [] [] few h = refl
agree_all (suc n) [] (y ∷ ys) few h = let e : None ≡ Some y = h 0 (omega arith) in let no : ⊥ = cc in absurd no
agree_all (suc n) (x ∷ xs) [] few h = let e : Some x ≡ None = h 0 (omega arith) in let no : ⊥ = cc in absurd no
agree_all (suc n) (x ∷ xs) (y ∷ ys) few h =
    let e : Some x ≡ Some y = h 0 (omega arith) in
    let same : x ≡ y = cc in
    let rest : xs ≡ ys = agree_all n xs ys (omega arith) (λ k below. h (suc k) (omega arith)) in
    rw (same, rest) refl

agree_last : (n k : ℕ) (xs ys : List ℕ) (before : Bool) → nat_lt k n ≡ before → Agree n xs ys → slice_get xs n ≡ slice_get ys n → k < n + 1
    → slice_get xs k ≡ slice_get ys k
agree_last n k xs ys true e h last below = h k (ltb-true k n e)
agree_last n k xs ys false e h last below = let past = ltb-false k n e in let at : k ≡ n = omega arith in rw at last

pub agree_more : (n : ℕ) (xs ys : List ℕ) → Agree n xs ys → slice_get xs n ≡ slice_get ys n → Agree (n + 1) xs ys
agree_more n xs ys h last k below = agree_last n k xs ys (nat_lt k n) refl h last below

-- the numbers of symbols of one object, as image and names tell them

same_option : (a b : Option ℕ) → false ≡ not (option_eq eqb a b) → a ≡ b
same_option None None h = refl
same_option None (Some n) h = let no : ⊥ = cc in absurd no
same_option (Some m) None h = let no : ⊥ = cc in absurd no
same_option (Some m) (Some n) h = let at : m ≡ n = eqb-true m n (not-false (eqb m n) (sym h)) in rw at refl

eq_itself : (a : Option ℕ) → option_eq eqb a a ≡ true
eq_itself None = refl
eq_itself (Some n) = nat_eq_equiv.refl n

count_names : (names : List ObjectNames) (n : ℕ) → slice_get (name_counts names) n ≡ option_map (λ (o : ObjectNames). length o.symbols) (slice_get names n)
count_names names n = slice_get-map (λ (o : ObjectNames). length o.symbols) names n

count_symbols : (objects : List Object) (n : ℕ) → slice_get (symbol_counts objects) n ≡ option_map (λ (o : Object). length o.symbols) (slice_get objects n)
count_symbols objects n = slice_get-map (λ (o : Object). length o.symbols) objects n

pub same_at : (names : List ObjectNames) (objects : List Object) (n : ℕ) (a b : Option ℕ)
    → a ≡ option_map (λ (o : ObjectNames). length o.symbols) (slice_get names n) → b ≡ option_map (λ (o : Object). length o.symbols) (slice_get objects n)
    → false ≡ not (option_eq eqb a b) → slice_get (name_counts names) n ≡ slice_get (symbol_counts objects) n
same_at names objects n a b of_names of_objects h =
    count_names names n ∙ sym of_names ∙ same_option a b h ∙ of_objects ∙ sym (count_symbols objects n)

pub other_at : (names : List ObjectNames) (objects : List Object) (n : ℕ) (a b : Option ℕ)
    → a ≡ option_map (λ (o : ObjectNames). length o.symbols) (slice_get names n) → b ≡ option_map (λ (o : Object). length o.symbols) (slice_get objects n)
    → true ≡ not (option_eq eqb a b) → name_counts names ≡ symbol_counts objects → ⊥
other_at names objects n a b of_names of_objects h same =
    let e : a ≡ b = of_names ∙ sym (count_names names n) ∙ ap (λ (ns : List ℕ). slice_get ns n) same ∙ count_symbols objects n ∙ sym of_objects in
    let is : option_eq eqb a b ≡ true = ap (λ (x : Option ℕ). option_eq eqb x b) e ∙ eq_itself b in
    let no : true ≡ false = h ∙ ap not is in
    cc

pub few_counts : (objects : List Object) (n : ℕ) → length objects < n → length (symbol_counts objects) < n
few_counts objects n h = omega (arith, length-map objects (λ (o : Object). length o.symbols))
