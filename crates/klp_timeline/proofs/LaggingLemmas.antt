-- Who is among those that lag.
use Rattle.std.proofs.Common.{◌≡◌, ℕ, zero, suc, ◌+◌, Bool, true, false, cond, List, [], ◌∷◌, ◌++◌, length, Option, Some, None, inl, inr, refl, sym, ap, subst, ◌∙◌, arith}
use Rattle.std.specs.Prelude.{Contains, count_by}
use Rattle.std.proofs.lemmas.List.Sums.{sum_by-cons}
use Rattle.klp_types.specs.declared.task.Mode.{Mode}
use Rattle.klp_types.specs.declared.task.Mode.TheVariants.{User, Kernel, Asleep}
use Rattle.klp_model.specs.Task.{is_mode}
use Rattle.klp_timeline.specs.Lagging.{is_in, lagging_from, wait_at, lagging}
use Rattle.klp_timeline.proofs.AmongLemmas.{none_among, first_among, later_among, first_or_later}

same_mode : (own mode : Mode) → is_mode own mode ≡ true → own ≡ mode
same_mode User User e = refl
same_mode User Kernel e = cc
same_mode User Asleep e = cc
same_mode Kernel User e = cc
same_mode Kernel Kernel e = refl
same_mode Kernel Asleep e = cc
same_mode Asleep User e = cc
same_mode Asleep Kernel e = cc
same_mode Asleep Asleep e = refl

is_own_mode : (mode : Mode) → is_mode mode mode ≡ true
is_own_mode User = refl
is_own_mode Kernel = refl
is_own_mode Asleep = refl

in_is : (mode : Mode) (wait : Option Mode) → is_in mode wait ≡ true → wait ≡ Some mode
in_is mode None e = cc
in_is mode (Some own) e = ap Some (same_mode own mode e)

is_in_of : (mode : Mode) (wait : Option Mode) → wait ≡ Some mode → is_in mode wait ≡ true
is_in_of mode wait e = ap (is_in mode) e ∙ is_own_mode mode

-- the first of these and the others
abbrev next_lagging : Bool → Mode → ℕ → List (Option Mode) → List ℕ
next_lagging b mode first waits = cond b (first ∷ []) [] ++ lagging_from mode (suc first) waits

-- where the first of these has this number, the task behind so many of them has theirs and so many more
each_there : (mode : Mode) (first index : ℕ) (waits : List (Option Mode)) → wait_at waits index ≡ Some mode → Contains (lagging_from mode first waits) (first + index)
each_there mode first index [] e = absurd (none index e)
  where
    none : (index : ℕ) → wait_at [] index ≡ Some mode → ⊥
    none zero e = cc
    none (suc index) e = cc
each_there mode first zero (wait ∷ waits) e = by (is_in mode wait) (is_in_of mode wait e)
  where
    by : (b : Bool) → b ≡ true → Contains (next_lagging b mode first waits) (first + zero)
    by true e = subst (Contains (first ∷ lagging_from mode (suc first) waits)) (omega arith) (first_among first (lagging_from mode (suc first) waits))
    by false e = cc
each_there mode first (suc index) (wait ∷ waits) e =
    by (is_in mode wait) (subst (Contains (lagging_from mode (suc first) waits)) (omega arith) (each_there mode (suc first) index waits e))
  where
    by : (b : Bool) → Contains (lagging_from mode (suc first) waits) (first + suc index) → Contains (next_lagging b mode first waits) (first + suc index)
    by true later = later_among first (lagging_from mode (suc first) waits) (first + suc index) later
    by false later = later

-- who is among them lags
pub record IsBehind (mode : Mode) (first task : ℕ) (waits : List (Option Mode)) : Type 0 where
  pub index : ℕ
  pub number : task ≡ first + index
  pub lags : wait_at waits index ≡ Some mode

none_made_up_from : (mode : Mode) (first task : ℕ) (waits : List (Option Mode)) → Contains (lagging_from mode first waits) task → IsBehind mode first task waits
none_made_up_from mode first task [] among = absurd (none_among task among)
none_made_up_from mode first task (wait ∷ waits) among = by (none_made_up_from mode (suc first) task waits) (is_in mode wait) refl among
  where
    behind : IsBehind mode (suc first) task waits → IsBehind mode first task (wait ∷ waits)
    behind later = record { index = suc later.index; number = later.number ∙ omega arith; lags = later.lags }

    by : (Contains (lagging_from mode (suc first) waits) task → IsBehind mode (suc first) task waits)
        → (b : Bool) → is_in mode wait ≡ b → Contains (next_lagging b mode first waits) task → IsBehind mode first task (wait ∷ waits)
    by others true is among = elim (first_or_later first (lagging_from mode (suc first) waits) task among) [
      | inl same ↦ record { index = zero; number = sym same ∙ omega arith; lags = in_is mode wait is }
      | inr later ↦ behind (others later)
    ]
    by others false is among = behind (others among)

pub each_laggard_there : (waits : List (Option Mode)) (mode : Mode) (task : ℕ) → wait_at waits task ≡ Some mode → Contains (lagging mode waits) task
each_laggard_there waits mode task e = subst (Contains (lagging mode waits)) (omega arith) (each_there mode 0 task waits e)

pub no_laggard_made_up : (waits : List (Option Mode)) (mode : Mode) (task : ℕ) → Contains (lagging mode waits) task → wait_at waits task ≡ Some mode
no_laggard_made_up waits mode task among =
    (let found = none_made_up_from mode 0 task waits among in ap (wait_at waits) (found.number ∙ omega arith) ∙ found.lags)

-- there are as many as are counted
pub each_laggard_counted : (waits : List (Option Mode)) (mode : Mode) (first : ℕ) → length (lagging_from mode first waits) ≡ count_by (is_in mode) waits
each_laggard_counted [] mode first = refl
each_laggard_counted (wait ∷ waits) mode first =
    by (is_in mode wait) (each_laggard_counted waits mode (suc first)) ∙ sym (sum_by-cons (λ wait. cond (is_in mode wait) 1 0) wait waits)
  where
    by : (b : Bool) → length (lagging_from mode (suc first) waits) ≡ count_by (is_in mode) waits
        → length (next_lagging b mode first waits) ≡ cond b 1 0 + count_by (is_in mode) waits
    by true rest = omega arith
    by false rest = omega arith
