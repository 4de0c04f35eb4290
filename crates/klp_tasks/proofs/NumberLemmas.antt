-- The numbers that a task has, as bits.
use Rattle.std.proofs.Common.{◌≡◌, ◌≢◌, ℕ, ◌*◌, ◌%◌, ◌^◌, ◌<◌, true, false, eqb, cond, inl, inr, refl, sym, ap, ◌∙◌, arith, w64, eq-eqb, Bool, [], ◌∷◌, zero, suc, length, replicate, Option, Some, None, get_or-set_same, get_or-set_other}
use Rattle.std.proofs.lemmas.Bool.{cases_eq, cases_lt}
use Rattle.std.proofs.lemmas.Nat.{and_le_l}
use Rattle.std.proofs.lemmas.Nat.Bits.{bit_at-trailing_zeros, bit_at_set_same, bit_at_set_other, bit_at_clear_same, bit_at_clear_other, bit_at_above, bit_at-zero}
use Rattle.std.specs.Prelude.{bit_and, bit_or, is_some}
use Rattle.std.specs.Int.{bit_at, bit_not, trailing_zeros}
use Rattle.klp_types.specs.declared.task.Task.{Task}
use Rattle.klp_model.specs.Task.{Tasks, task_at, with_task}
use Rattle.klp_tasks.specs.Numbers.{AreTaken, IsLowest}

-- the bits without one
abbrev pub without : ℕ → ℕ → ℕ
without bits number = bit_and bits (bit_not w64 (1 * 2 ^ number % 2 ^ 64))

-- no other bit changes, also of those that a word doesn't have
pub without_other : (bits number other : ℕ) → number < 64 → bits < 2 ^ 64 → other ≢ number → bit_at (without bits number) other ≡ bit_at bits other
without_other bits number other within fits apart =
    elim (cases_lt other 64) [
      | inl small ↦ bit_at_clear_other w64 bits number within other small apart
      | inr large ↦
          let less : without bits number < 2 ^ 64 = omega (arith, and_le_l bits (bit_not w64 (1 * 2 ^ number % 2 ^ 64))) in
          bit_at_above (without bits number) 64 other less large ∙ sym (bit_at_above bits 64 other fits large)
    ]

pub bit_out : (bits number : ℕ) → number < 64 → bits < 2 ^ 64 → (other : ℕ) → bit_at (without bits number) other ≡ cond (eqb other number) 0 (bit_at bits other)
bit_out bits number within fits other =
    elim (cases_eq other number) [
      | inl same ↦
          let own : eqb other number ≡ true = eq-eqb other number same in
          rw own (ap (bit_at (without bits number)) same ∙ bit_at_clear_same w64 bits number within)
      | inr apart ↦
          let not_own : eqb other number ≡ false = grind arith in
          rw not_own (without_other bits number other within fits apart)
    ]

pub bit_in : (bits number : ℕ) → number < 64 → (other : ℕ) → bit_at (bit_or bits (1 * 2 ^ number % 2 ^ 64)) other ≡ cond (eqb other number) 1 (bit_at bits other)
bit_in bits number within other =
    elim (cases_eq other number) [
      | inl same ↦
          let own : eqb other number ≡ true = eq-eqb other number same in
          rw own (ap (bit_at (bit_or bits (1 * 2 ^ number % 2 ^ 64))) same ∙ bit_at_set_same w64 bits number within)
      | inr apart ↦
          let not_own : eqb other number ≡ false = grind arith in
          rw not_own (bit_at_set_other w64 bits number within other apart)
    ]

-- the lowest bit is taken out
pub lowest_out : (bits : ℕ) → 0 < bits → bits < 2 ^ 64 → IsLowest (trailing_zeros w64 bits) bits (without bits (trailing_zeros w64 bits))
lowest_out bits some fits =
    let number : ℕ = trailing_zeros w64 bits in
    let is = bit_at-trailing_zeros w64 bits some fits in
    let gone : bit_at (without bits number) number ≡ 0 = bit_at_clear_same w64 bits number is.0 in
    record {
      within = is.0;
      there = is.1;
      lowest = is.2;
      gone = gone;
      others = λ other apart. without_other bits number other is.0 fits apart;
      fewer = elim (cases_eq (without bits number) bits) [
        | inl same ↦ absurd (let both : bit_at (without bits number) number ≡ bit_at bits number = ap (λ b. bit_at b number) same in omega (arith, is.1))
        | inr other ↦ omega (arith, and_le_l bits (bit_not w64 (1 * 2 ^ number % 2 ^ 64)))
      ];
    }

row_at : (tasks : Tasks) (number : ℕ) (row : Option Task) → number < length tasks → (other : ℕ)
    → task_at (with_task tasks number row) other ≡ cond (eqb other number) row (task_at tasks other)
row_at tasks number row within other =
    elim (cases_eq other number) [
      | inl same ↦
          let own : eqb other number ≡ true = eq-eqb other number same in
          rw own (ap (task_at (with_task tasks number row)) same ∙ get_or-set_same tasks number row None within)
      | inr apart ↦
          let not_own : eqb other number ≡ false = grind arith in
          rw not_own (get_or-set_other tasks number other row None apart)
    ]

-- the row of one number is written, and its bit
pub taken_put : (bits now : ℕ) (tasks : Tasks) (number : ℕ) (row : Option Task) → number < length tasks → AreTaken bits tasks
    → ((other : ℕ) → bit_at now other ≡ cond (eqb other number) (cond (is_some row) 1 0) (bit_at bits other)) → AreTaken now (with_task tasks number row)
taken_put bits now tasks number row within taken written =
    record {
      each = λ other.
          let own = row_at tasks number row within other in
          written other
          ∙ elim (eqb other number) as
          (λ (b : Bool). task_at (with_task tasks number row) other ≡ cond b row (task_at tasks other)
          → cond b (cond (is_some row) 1 0) (bit_at bits other) ≡ cond (is_some (task_at (with_task tasks number row) other)) 1 0)
          [ true ↦ λ is. rw is refl | false ↦ λ is. rw is (taken.each other) ] own;
    }

there_stays : (tasks : Tasks) (number : ℕ) (task now : Task) → task_at tasks number ≡ Some task → (other : ℕ)
    → is_some (task_at tasks other) ≡ is_some (task_at (with_task tasks number (Some now)) other)
there_stays [] number task now there other = refl
there_stays (first ∷ tasks) zero task now there zero = ap is_some there
there_stays (first ∷ tasks) zero task now there (suc other) = refl
there_stays (first ∷ tasks) (suc number) task now there zero = refl
there_stays (first ∷ tasks) (suc number) task now there (suc other) = there_stays tasks number task now there other

-- a task that is there changes
pub taken_stay : (bits : ℕ) (tasks : Tasks) (number : ℕ) (task now : Task) → task_at tasks number ≡ Some task → AreTaken bits tasks → AreTaken bits (with_task tasks number (Some now))
taken_stay bits tasks number task now there taken =
    record { each = λ other. taken.each other ∙ ap (λ b. cond b 1 0) (there_stays tasks number task now there other) }

none_there : (count number : ℕ) → task_at (replicate count None) number ≡ None
none_there zero number = refl
none_there (suc count) zero = refl
none_there (suc count) (suc number) = none_there count number

pub none_taken : (count : ℕ) → AreTaken 0 (replicate count None)
none_taken count = record { each = λ number. bit_at-zero number ∙ ap (λ row. cond (is_some row) 1 0) (sym (none_there count number)) }
