-- The sites that are hooked, as bits.
use Rattle.std.proofs.Common.{◌≡◌, ◌≢◌, ℕ, ◌+◌, ◌-◌, ◌*◌, ◌/◌, ◌%◌, ◌^◌, ◌<◌, ◌≤◌, true, false, eqb, cond, inl, inr, refl, sym, ap, ◌∙◌, arith, w64, eq-eqb, Bool, List, [], ◌∷◌, zero, suc, length, set, get_or, get_or-set_other}
use Rattle.std.proofs.lemmas.Bool.{cases_eq, cases_lt}
use Rattle.std.proofs.lemmas.Grind.{get_or-set_at}
use Rattle.std.proofs.lemmas.List.{length-set}
use Rattle.std.proofs.lemmas.Nat.{shr-shr, shr_le, and_le_l}
use Rattle.std.proofs.lemmas.Nat.Bits.{bit_at-trailing_zeros, bit_at_set_same, bit_at_set_other, bit_at_clear_same, bit_at_clear_other, bit_at_above, bit_at-zero}
use Rattle.std.specs.Prelude.{bit_and, bit_or}
use Rattle.std.specs.Int.{bit_at, bit_not, trailing_zeros}
use Rattle.klp_types.specs.declared.limits.TheConstants.{MAX_SITES}
use Rattle.klp_text.specs.TextImage.{TextImage}
use Rattle.klp_sites.specs.Table.{is_stacked, is_hooked_at, IsInStep}
use Rattle.klp_sites.specs.Hooked.{bit_of, AreHooked, IsLowestFrom, IsNextSet}
use Rattle.klp_sites.proofs.StepLemmas.{Entries, turned, unturned}

-- one bit of a word is set
pub bit_in : (word number : ℕ) → number < 64 → (other : ℕ) → bit_at (bit_or word (1 * 2 ^ number % 2 ^ 64)) other ≡ cond (eqb other number) 1 (bit_at word other)
bit_in word number within other =
    elim (cases_eq other number) [
      | inl same ↦
          let own : eqb other number ≡ true = eq-eqb other number same in
          rw own (ap (bit_at (bit_or word (1 * 2 ^ number % 2 ^ 64))) same ∙ bit_at_set_same w64 word number within)
      | inr apart ↦
          let not_own : eqb other number ≡ false = grind arith in
          rw not_own (bit_at_set_other w64 word number within other apart)
    ]

-- one bit of a word is cleared
without : ℕ → ℕ → ℕ
without word number = bit_and word (bit_not w64 (1 * 2 ^ number % 2 ^ 64))

pub bit_out : (word number : ℕ) → number < 64 → word < 2 ^ 64 → (other : ℕ) → bit_at (bit_and word (bit_not w64 (1 * 2 ^ number % 2 ^ 64))) other ≡ cond (eqb other number) 0 (bit_at word other)
bit_out word number within fits other =
    elim (cases_eq other number) [
      | inl same ↦
          let own : eqb other number ≡ true = eq-eqb other number same in
          rw own (ap (bit_at (bit_and word (bit_not w64 (1 * 2 ^ number % 2 ^ 64)))) same ∙ bit_at_clear_same w64 word number within)
      | inr apart ↦
          let not_own : eqb other number ≡ false = grind arith in
          rw not_own (elim (cases_lt other 64) [
            | inl small ↦ bit_at_clear_other w64 word number within other small apart
            | inr large ↦
                let less : bit_and word (bit_not w64 (1 * 2 ^ number % 2 ^ 64)) < 2 ^ 64 = omega (arith, and_le_l word (bit_not w64 (1 * 2 ^ number % 2 ^ 64))) in
                bit_at_above (bit_and word (bit_not w64 (1 * 2 ^ number % 2 ^ 64))) 64 other less large ∙ sym (bit_at_above word 64 other fits large)
          ])
    ]

-- the word of a site is written, and of its bits alone that of the site changes
pub bit_put : (words : List ℕ) (site word bit : ℕ) → site / 64 < length words
    → ((other : ℕ) → bit_at word other ≡ cond (eqb other (site % 64)) bit (bit_at (get_or words (site / 64) 0) other))
    → (other : ℕ) → bit_of (set words (site / 64) word) other ≡ cond (eqb other site) bit (bit_of words other)
bit_put words site word bit there written other =
    elim (cases_eq (other / 64) (site / 64)) [
      | inl same ↦
          ap (λ w. bit_at w (other % 64)) (get_or-set_at words (site / 64) (other / 64) word 0 same there)
          ∙ written (other % 64)
          ∙ ap (λ b. cond b bit (bit_at (get_or words (site / 64) 0) (other % 64))) (in_word same)
          ∙ ap (λ w. cond (eqb other site) bit (bit_at (get_or words w 0) (other % 64))) (sym same)
      | inr apart ↦
          let not_own : eqb other site ≡ false = not_same apart in
          rw not_own (ap (λ w. bit_at w (other % 64)) (get_or-set_other words (site / 64) (other / 64) word 0 apart))
    ]
  where
    not_same : other / 64 ≢ site / 64 → eqb other site ≡ false
    not_same apart = elim (cases_eq other site) [ inl same ↦ absurd (apart (ap (λ n. n / 64) same)) | inr other ↦ grind arith ]

    in_word : other / 64 ≡ site / 64 → eqb (other % 64) (site % 64) ≡ eqb other site
    in_word same =
        elim (cases_eq other site) [
          | inl own ↦ eq-eqb (other % 64) (site % 64) (ap (λ n. n % 64) own) ∙ sym (eq-eqb other site own)
          | inr apart ↦
              let not_own : eqb other site ≡ false = grind arith in
              let parts : other % 64 ≢ site % 64 = λ e. apart (omega (arith, same, e)) in
              let not_in_word : eqb (other % 64) (site % 64) ≡ false = grind arith in
              not_in_word ∙ sym not_own
        ]

-- a word without the bits below a number
shifted : (word from more : ℕ) → bit_at word (from + more) ≡ bit_at (word / 2 ^ from) more
shifted word from more = ap (λ n. n % 2) (sym (shr-shr word from more))

pub none_from : (word from : ℕ) → word / 2 ^ from ≡ 0 → (other : ℕ) → from ≤ other → bit_at word other ≡ 0
none_from word from none other since =
    let split : other ≡ from + (other - from) = omega arith in
    ap (bit_at word) split ∙ shifted word from (other - from) ∙ ap (λ n. bit_at n (other - from)) none ∙ bit_at-zero (other - from)

pub lowest_from : (word from : ℕ) → word < 2 ^ 64 → 0 < word / 2 ^ from → IsLowestFrom word from (from + trailing_zeros w64 (word / 2 ^ from))
lowest_from word from fits some =
    let left : ℕ = word / 2 ^ from in
    let lowest : ℕ = trailing_zeros w64 left in
    let is = bit_at-trailing_zeros w64 left some (omega (arith, shr_le word from)) in
    let there : bit_at word (from + lowest) ≡ 1 = shifted word from lowest ∙ is.1 in
    record {
      within = elim (cases_lt (from + lowest) 64) [
        | inl small ↦ small
        | inr large ↦ absurd (omega (arith, there, bit_at_above word 64 (from + lowest) fits large))
      ];
      since = omega arith;
      there = there;
      passed = λ other since below.
          let split : other ≡ from + (other - from) = omega arith in
          ap (bit_at word) split ∙ shifted word from (other - from) ∙ is.2 (other - from) (omega arith);
    }

-- no site between two numbers
abbrev pub NoneSet : List ℕ → ℕ → ℕ → Type 0
NoneSet words from to = (other : ℕ) → from ≤ other → other < to → bit_of words other ≡ 0

-- a word without one from a number on is passed over
pub word_passed : (words : List ℕ) (first from : ℕ) → NoneSet words first from → ((other : ℕ) → from % 64 ≤ other → bit_at (get_or words (from / 64) 0) other ≡ 0)
    → NoneSet words first ((from / 64 + 1) * 64)
word_passed words first from passed none other since below =
    elim (cases_lt other from) [
      | inl before ↦ passed other since before
      | inr behind ↦
          let own : other / 64 ≡ from / 64 = omega arith in
          ap (λ w. bit_at (get_or words w 0) (other % 64)) own ∙ none (other % 64) (omega (arith, own))
    ]

-- the first of a word is the first of all
pub first_set : (words : List ℕ) (first from number : ℕ) → first ≤ from → NoneSet words first from → IsLowestFrom (get_or words (from / 64) 0) (from % 64) number
    → IsNextSet words first (from / 64 * 64 + number)
first_set words first from number le passed is =
    let word : (from / 64 * 64 + number) / 64 ≡ from / 64 = omega (arith, is.within) in
    let bit : (from / 64 * 64 + number) % 64 ≡ number = omega (arith, is.within) in
    record {
      since = omega (arith, is.since);
      there = ap (λ w. bit_at (get_or words w 0) ((from / 64 * 64 + number) % 64)) word ∙ ap (bit_at (get_or words (from / 64) 0)) bit ∙ is.there;
      passed = λ other since below. elim (cases_lt other from) [
        | inl before ↦ passed other since before
        | inr behind ↦
            let own : other / 64 ≡ from / 64 = omega (arith, is.within) in
            ap (λ w. bit_at (get_or words w 0) (other % 64)) own ∙ is.passed (other % 64) (omega (arith, own)) (omega (arith, own))
      ];
    }

-- a site that is hooked is there
pub hooked_there : (stacks : List Entries) (site : ℕ) → is_hooked_at stacks site ≡ true → site < length stacks
hooked_there [] site there = cc
hooked_there (first ∷ stacks) zero there = omega arith
hooked_there (first ∷ stacks) (suc site) there = let later = hooked_there stacks site there in omega arith

-- no site is hooked where none has an entry
pub none_hooked : (words : List ℕ) (stacks : List Entries) → ((site : ℕ) → bit_of words site ≡ 0) → ((site : ℕ) → is_hooked_at stacks site ≡ false) → AreHooked words stacks
none_hooked words stacks none resting = record { each = λ site. none site ∙ ap (λ b. cond b 1 0) (sym (resting site)) }

-- the stack of one site is made anew, and the bit of the site is that of the new stack
put_hooked : (words : List ℕ) (stacks : List Entries) (site : ℕ) (new : Entries) (to : List Entries) (hooked : Bool) (now : List ℕ) → AreHooked words stacks → to ≡ set stacks site new → is_hooked_at to site ≡ hooked
    → ((other : ℕ) → bit_of now other ≡ cond (eqb other site) (cond hooked 1 0) (bit_of words other)) → AreHooked now to
put_hooked words stacks site new to hooked now are is flag written =
    record {
      each = λ other. written other ∙ elim (cases_eq other site) [
        | inl same ↦
            let own : eqb other site ≡ true = eq-eqb other site same in
            rw own (ap (λ b. cond b 1 0) (sym (ap (is_hooked_at to) same ∙ flag)))
        | inr apart ↦
            let not_own : eqb other site ≡ false = grind arith in
            let stays : is_hooked_at to other ≡ is_hooked_at stacks other = ap (λ s. is_hooked_at s other) is ∙ ap is_stacked (get_or-set_other stacks site other new [] apart) in
            rw not_own (are.each other ∙ ap (λ b. cond b 1 0) (sym stays))
      ];
    }

-- what the table of sites keeps
abbrev pub IsKept : TextImage → List Entries → List ℕ → Type 0
IsKept image stacks words = IsInStep image stacks × (length stacks ≤ MAX_SITES) × AreHooked words stacks

module _ (image : TextImage) (stacks : List Entries) (words : List ℕ) (kept : IsKept image stacks words) (site : ℕ) (new : Entries) (to : List Entries) (is : to ≡ set stacks site new) where
  count : length to ≤ MAX_SITES
  count = let same = ap length is ∙ length-set stacks site new in omega (arith, same, kept.1)

  -- the hook of a site is turned with its stack
  pub kept_turned : (hooked : Bool) → is_hooked_at to site ≡ hooked → (after : TextImage) → after ≡ record image { hooked = set image.hooked site hooked }
      → (now : List ℕ) → ((other : ℕ) → bit_of now other ≡ cond (eqb other site) (cond hooked 1 0) (bit_of words other)) → IsKept after to now
  kept_turned hooked flag after turns now written =
      (turned image stacks kept.0 site new to is hooked flag after turns, count, put_hooked words stacks site new to hooked now kept.2 is flag written)

  -- the hook stays
  pub kept_unturned : (hooked : Bool) → is_hooked_at stacks site ≡ hooked → is_hooked_at to site ≡ hooked → IsKept image to words
  kept_unturned hooked before flag =
      (unturned image stacks kept.0 site new to is hooked before flag, count, put_hooked words stacks site new to hooked words kept.2 is flag unwritten)
    where
      unwritten : (other : ℕ) → bit_of words other ≡ cond (eqb other site) (cond hooked 1 0) (bit_of words other)
      unwritten other = elim (cases_eq other site) [
        | inl same ↦
            let own : eqb other site ≡ true = eq-eqb other site same in
            rw own (kept.2.each other ∙ ap (λ b. cond b 1 0) (ap (is_hooked_at stacks) same ∙ before))
        | inr apart ↦
            let not_own : eqb other site ≡ false = grind arith in
            rw not_own refl
      ]
