-- Which sentences are told of.
use Rattle.std.proofs.Common.{◌≡◌, ℕ, suc, ◌+◌, ◌-◌, ◌<◌, ◌≤◌, Bool, true, false, not, ◌&&◌, cond, List, [], ◌∷◌, length, ◌⊎◌, inl, inr, refl, ap, ◌∙◌, arith}
use Rattle.std.specs.Prelude.{nat_lt, Contains, All}
use Rattle.std.proofs.lemmas.Bool.{ltb-true, ltb-false}
use Rattle.std.proofs.lemmas.List.Elements.{All-nil, All-cons}
use Rattle.klp_timeline.specs.declared.shown.TheConstants.{MAX_SENTENCES}
use Rattle.klp_timeline.specs.declared.moment.Sentence.{Sentence}
use Rattle.klp_timeline.specs.Shown.{is_lasting, is_left_out, shown_of, left_out_of, excess, shown}
use Rattle.klp_timeline.proofs.AmongLemmas.{none_among, first_among, later_among, first_or_later}

-- the first of these, and what is told of the others
abbrev next_shown : Bool → ℕ → Sentence → List Sentence → List Sentence
next_shown b n first rest = cond b (shown_of (n - 1) rest) (first ∷ shown_of n rest)

-- what lasts isn't left out
not_left : (n : ℕ) (one : Sentence) → is_lasting one ≡ true → is_left_out n one ≡ false
not_left n one lasts = ap (λ b. nat_lt 0 n && not b) lasts ∙ by (nat_lt 0 n)
  where
    by : (b : Bool) → (b && false) ≡ false
    by true = refl
    by false = refl

pub lasting_shown : (n : ℕ) (all : List Sentence) (one : Sentence) → Contains all one → is_lasting one ≡ true → Contains (shown_of n all) one
lasting_shown n [] one among lasts = absurd (none_among one among)
lasting_shown n (first ∷ rest) one among lasts = elim (first_or_later first rest one among) [
  | inl same ↦ here same (is_left_out n first) (ap (is_left_out n) same ∙ not_left n one lasts)
  | inr later ↦ there (is_left_out n first) (lasting_shown (n - 1) rest one later lasts) (lasting_shown n rest one later lasts)
]
  where
    here : first ≡ one → (b : Bool) → b ≡ false → Contains (next_shown b n first rest) one
    here same true e = cc
    here same false e = rw (← same) (first_among first (shown_of n rest))

    there : (b : Bool) → Contains (shown_of (n - 1) rest) one → Contains (shown_of n rest) one → Contains (next_shown b n first rest) one
    there true less more = less
    there false less more = later_among first (shown_of n rest) one more

pub each_counted : (n : ℕ) (all : List Sentence) → length (shown_of n all) + left_out_of n all ≡ length all
each_counted n [] = omega arith
each_counted n (first ∷ rest) = by (is_left_out n first) (each_counted (n - 1) rest) (each_counted n rest)
  where
    by : (b : Bool) → length (shown_of (n - 1) rest) + left_out_of (n - 1) rest ≡ length rest → length (shown_of n rest) + left_out_of n rest ≡ length rest
        → length (next_shown b n first rest) + cond b (suc (left_out_of (n - 1) rest)) (left_out_of n rest) ≡ suc (length rest)
    by true less more = omega arith
    by false less more = omega arith

-- it is as short as it is to be, or only of what lasts
abbrev IsShort : ℕ → List Sentence → List Sentence → Type 0
IsShort n shown all = (length shown + n ≤ length all) ⊎ All (λ one. is_lasting one ≡ true) shown

short_from : (n : ℕ) (all : List Sentence) → IsShort n (shown_of n all) all
short_from n [] = inr (All-nil (λ (one : Sentence). is_lasting one ≡ true))
short_from n (first ∷ rest) = by (nat_lt 0 n) (is_lasting first) refl refl (short_from (n - 1) rest) (short_from n rest)
  where
    lasting_first : is_lasting first ≡ true → IsShort n (shown_of n rest) rest → IsShort n (first ∷ shown_of n rest) (first ∷ rest)
    lasting_first is (inl short) = inl (omega arith)
    lasting_first is (inr all) = inr (All-cons (λ (one : Sentence). is_lasting one ≡ true) first (shown_of n rest) is all)

    fewer : 0 < n → IsShort (n - 1) (shown_of (n - 1) rest) rest → IsShort n (shown_of (n - 1) rest) (first ∷ rest)
    fewer some (inl short) = inl (omega arith)
    fewer some (inr all) = inr all

    whole : n ≤ 0 → IsShort n (first ∷ shown_of n rest) (first ∷ rest)
    whole none = inl (omega (arith, each_counted n rest))

    by : (some b : Bool) → nat_lt 0 n ≡ some → is_lasting first ≡ b → IsShort (n - 1) (shown_of (n - 1) rest) rest → IsShort n (shown_of n rest) rest
        → IsShort n (next_shown (some && not b) n first rest) (first ∷ rest)
    by true true some is less more = lasting_first is more
    by true false some is less more = fewer (ltb-true 0 n some) less
    by false b none is less more = whole (ltb-false 0 n none)

pub short_shown : (all : List Sentence) → (length (shown all) ≤ MAX_SENTENCES) ⊎ All (λ one. is_lasting one ≡ true) (shown all)
short_shown all = by (short_from (excess all) all)
  where
    by : IsShort (excess all) (shown all) all → (length (shown all) ≤ MAX_SENTENCES) ⊎ All (λ one. is_lasting one ≡ true) (shown all)
    by (inl short) = inl (omega arith)
    by (inr all) = inr all
