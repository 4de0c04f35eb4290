-- Records whose words are a number and a flag.
use Rattle.std.proofs.Common.{◌≡◌, ℕ, ◌<◌, ◌≤◌, Bool, List, [], ◌∷◌, Option, None, sym, subst, arith}
use Rattle.std.specs.Prelude.{◌==◌, if◌then◌else◌}
use Rattle.klp_types.specs.declared.record.Record.{Record}
use Rattle.klp_types.specs.declared.record.Record.TheVariants.{TaskRow, NoTaskRow, ShadowVariable, NoShadowVariable, StateValue, StateRow, LoadedFlag, InstalledPatch, StackEntry, HookFlag, Moving, NothingMoving, PinnedFlag}
use Rattle.klp_types.specs.Finds.{Finds}
use Rattle.klp_journal.specs.declared.kinds.TheConstants.{KIND_LOADED, KIND_INSTALLED, KIND_ENTRY, KIND_HOOK, KIND_TRANSITION}
use Rattle.klp_journal.specs.Words.{flag_word, IsBody}
use Rattle.klp_journal.proofs.ReadLemmas.{not_found, none_is}

-- how many numbers the rows of a kind have
abbrev pub numbers_of : ℕ → ℕ
numbers_of kind = if kind == KIND_HOOK then 65536 else 256

-- a number below this limit with a flag
abbrev pub IsPair : ℕ → List ℕ → ℕ × Bool → Type 0
IsPair limit body pair = (pair.0 ∷ flag_word pair.1 ∷ [] ≡ body) × (pair.0 < limit)

module _ (kind : ℕ) (body : List ℕ) (low : KIND_LOADED ≤ kind) (not_installed : kind ≡ KIND_INSTALLED → ⊥) (not_entry : kind ≡ KIND_ENTRY → ⊥) (some : kind ≡ KIND_TRANSITION → body ≡ [] → ⊥) where
  within : (row_kind number : ℕ) → row_kind ≡ kind → number < numbers_of row_kind → number < numbers_of kind
  within row_kind number is = subst (λ k. number < numbers_of k) is

  pair_of : (row : Record) → IsBody kind body row → (pair : ℕ × Bool) × IsPair (numbers_of kind) body pair
  pair_of (LoadedFlag object was) is = ((object, was), (is.1, within 5 object is.0 is.2))
  pair_of (HookFlag site was) is = ((site, was), (is.1, within 8 site is.0 is.2))
  pair_of (Moving was) is = ((was.patch, was.target), (is.1, within 9 was.patch is.0 is.2))
  pair_of (PinnedFlag patch was) is = ((patch, was), (is.1, within 10 patch is.0 is.2))
  pair_of NothingMoving is = absurd (some (sym is.0) (sym is.1))
  pair_of (InstalledPatch patch place) is = absurd (not_installed (sym is.0))
  pair_of (StackEntry site patch was) is = absurd (not_entry (sym is.0))
  pair_of (TaskRow task was) is = absurd (omega (arith, is.0, low))
  pair_of (NoTaskRow task) is = absurd (omega (arith, is.0, low))
  pair_of (ShadowVariable key was) is = absurd (omega (arith, is.0, low))
  pair_of (NoShadowVariable key) is = absurd (omega (arith, is.0, low))
  pair_of (StateValue patch id was) is = absurd (omega (arith, is.0, low))
  pair_of (StateRow patch id was) is = absurd (omega (arith, is.0, low))

  -- where the words aren't a number and a flag, they are those of no record of the kind
  pub no_flag : (pair : Option (ℕ × Bool)) (found : Option Record) → Finds (IsPair (numbers_of kind) body) pair → pair ≡ None → found ≡ None → Finds (IsBody kind body) found
  no_flag pair found finds no_pair none =
      subst (Finds (IsBody kind body)) (sym none)
      (not_found (IsBody kind body)
      (λ row is. none_is (IsPair (numbers_of kind) body) (pair_of row is).0 (subst (Finds (IsPair (numbers_of kind) body)) no_pair finds) (pair_of row is).1))
