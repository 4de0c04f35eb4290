-- What is known of what a search gives.
use Rattle.std.proofs.Common.{◌≡◌, ℕ, Bool, true, Some, None, sym}
use Rattle.std.proofs.lemmas.Option.{same_Some, none-some}
use Rattle.klp_types.specs.Finds.{Finds}

pub it_has : (has : ℕ → Bool) (x : ℕ) → Finds (λ n. has n ≡ true) (Some x) → has x ≡ true
it_has has x finds = finds.has

pub nothing_else : (has : ℕ → Bool) (x y : ℕ) → Finds (λ n. has n ≡ true) (Some x) → has y ≡ true → y ≡ x
nothing_else has x y finds it = sym (same_Some x y (finds.only y it))

pub nothing_at_all : (has : ℕ → Bool) (y : ℕ) → Finds (λ n. has n ≡ true) None → has y ≡ true → ⊥
nothing_at_all has y finds it = none-some y (finds.only y it)
