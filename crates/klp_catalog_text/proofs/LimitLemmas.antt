-- What no patch has twice.
use Rattle.std.proofs.Common.{◌≡◌, ℕ, suc, ◌+◌, ◌≤◌, ◌==◌, Bool, true, false, if◌then◌else◌, List, [], ◌∷◌, ◌++◌, length, refl, arith}
use Rattle.std.proofs.lemmas.Bool.Decides.{nat_tests}
use Rattle.std.specs.List.{AllByRecursion, list_any}
use Rattle.std.proofs.lemmas.Bool.{or_parts}
use Rattle.klp_types.specs.declared.callback.Which.{Which}
use Rattle.klp_types.specs.declared.callback.Which.TheVariants.{Pre, Post, PreUn, PostUn}
use Rattle.klp_catalog_text.specs.Plan.{PlanTarget}
use Rattle.klp_types.specs.Setting.{Callback as PlanCallback}
use Rattle.klp_catalog_text.specs.PlanParts.{which_number, with_callback}
use Rattle.klp_catalog_text.specs.Limits.{has_same, callback_number, HasFewEdits, HasOneEach}

pub all-push : {A : Type 0} (P : A → Type 0) (xs : List A) (x : A) → AllByRecursion P xs → P x → AllByRecursion P (xs ++ x ∷ [])
all-push P [] x all h = (h, tt)
all-push P (y ∷ xs) x all h = (all.0, all-push P xs x all.1 h)

none-push : {A : Type 0} (p : A → Bool) (xs : List A) (x : A) → list_any p xs ≡ false → p x ≡ false → list_any p (xs ++ x ∷ []) ≡ false
none-push p [] x none h = rw h refl
none-push p (y ∷ ys) x none h = rw (or_parts (p y) (list_any p ys) none).0 (none-push p ys x (or_parts (p y) (list_any p ys) none).1 h)

other_way : (m n : ℕ) → (m == n) ≡ false → (n == m) ≡ false
other_way m n h = grind (arith, nat_tests)

-- an item with a number of its own behind the others
pub distinct-push : {A : Type 0} (number : A → ℕ) (xs : List A) (x : A) → has_same number xs ≡ false → list_any (λ y. number y == number x) xs ≡ false
    → has_same number (xs ++ x ∷ []) ≡ false
distinct-push number [] x distinct new = refl
distinct-push number (y ∷ ys) x distinct new =
    let first = (or_parts (number y == number x) (list_any (λ z. number z == number x) ys) new).0 in
    let rest = (or_parts (number y == number x) (list_any (λ z. number z == number x) ys) new).1 in
    let others = (or_parts (list_any (λ z. number z == number y) ys) (has_same number ys) distinct).0 in
    rw (none-push (λ z. number z == number y) ys x others (other_way (number y) (number x) first))
    (distinct-push number ys x (or_parts (list_any (λ z. number z == number y) ys) (has_same number ys) distinct).1 rest)

-- ---- callbacks of each kind

-- how many callbacks have the number
abbrev count : ℕ → List PlanCallback → ℕ
count n [] = 0
count n (c ∷ cs) = if callback_number c == n then 1 + count n cs else count n cs

count_none : (n : ℕ) (cs : List PlanCallback) → list_any (λ c. callback_number c == n) cs ≡ false → count n cs ≡ 0
count_none n [] h = refl
count_none n (c ∷ cs) h =
    rw (or_parts (callback_number c == n) (list_any (λ d. callback_number d == n) cs) h).0 (count_none n cs (or_parts (callback_number c == n) (list_any (λ d. callback_number d == n) cs) h).1)

count_once : (n : ℕ) (cs : List PlanCallback) → has_same callback_number cs ≡ false → count n cs ≤ 1
count_once n [] h = omega arith
count_once n (c ∷ cs) h = by (count_once n cs (or_parts (list_any (λ d. callback_number d == callback_number c) cs) (has_same callback_number cs) h).1) (callback_number c == n) refl
  where
    others : list_any (λ d. callback_number d == callback_number c) cs ≡ false
    others = (or_parts (list_any (λ d. callback_number d == callback_number c) cs) (has_same callback_number cs) h).0

    same_number : (callback_number c == n) ≡ true → callback_number c ≡ n
    same_number e = grind (arith, nat_tests)

    by : count n cs ≤ 1 → (b : Bool) → (callback_number c == n) ≡ b → (if b then 1 + count n cs else count n cs) ≤ 1
    by rest true e = let none = count_none n cs (rw (← same_number e) others) in omega (arith, none)
    by rest false e = rest

count_all : (cs : List PlanCallback) → length cs ≡ count 0 cs + count 1 cs + count 2 cs + count 3 cs
count_all [] = omega arith
count_all (c ∷ cs) = by c.which (count_all cs)
  where
    by : (w : Which) → length cs ≡ count 0 cs + count 1 cs + count 2 cs + count 3 cs
        → suc (length cs)
        ≡ (if which_number w == 0 then 1 + count 0 cs else count 0 cs) + (if which_number w == 1 then 1 + count 1 cs else count 1 cs)
        + (if which_number w == 2 then 1 + count 2 cs else count 2 cs) + (if which_number w == 3 then 1 + count 3 cs else count 3 cs)
    by Pre h = omega (arith, h)
    by Post h = omega (arith, h)
    by PreUn h = omega (arith, h)
    by PostUn h = omega (arith, h)

four : (cs : List PlanCallback) → has_same callback_number cs ≡ false → length cs ≤ 4
four cs h = omega (arith, count_all cs, count_once 0 cs h, count_once 1 cs h, count_once 2 cs h, count_once 3 cs h)

-- a callback of another kind
pub one_each-push : (callback : PlanCallback) (target : PlanTarget) → HasFewEdits callback → list_any (λ (c : PlanCallback). which_number c.which == which_number callback.which) target.callbacks ≡ false
    → HasOneEach target → HasOneEach (with_callback callback target)
one_each-push callback target few new one =
    let distinct = distinct-push callback_number target.callbacks callback one.distinct new in
    record { few_callbacks = four (target.callbacks ++ callback ∷ []) distinct; distinct = distinct; few_edits = all-push HasFewEdits target.callbacks callback one.few_edits few }
