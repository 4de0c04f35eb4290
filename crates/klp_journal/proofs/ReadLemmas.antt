-- What is found, and that a record is known from its kind and its words.
use Rattle.std.proofs.Common.{◌≡◌, ℕ, ◌≤◌, List, Some, None, sym, ap, ◌∙◌, arith}
use Rattle.klp_types.specs.declared.record.Record.{Record}
use Rattle.klp_types.specs.declared.record.Record.TheVariants.{TaskRow, NoTaskRow, ShadowVariable, NoShadowVariable, StateValue, StateRow, LoadedFlag, InstalledPatch, StackEntry, HookFlag, Moving, NothingMoving, PinnedFlag}
use Rattle.klp_types.specs.Finds.{Finds}
use Rattle.klp_journal.specs.Words.{kind_of, IsBody}
use Rattle.klp_journal.specs.Decoded.{record_of}
use Rattle.klp_journal.proofs.WordLemmas.{record_back}

-- what is found
pub found : {A : Type 0} (P : A → Type 0) (x : A) → P x → ((y : A) → P y → x ≡ y) → Finds P (Some x)
found P x p only = record { has = p; only = λ y q. ap Some (only y q) }

pub not_found : {A : Type 0} (P : A → Type 0) → ((y : A) → P y → ⊥) → Finds P None
not_found P never = record { has = tt; only = λ y q. absurd (never y q) }

pub none_is : {A : Type 0} (P : A → Type 0) (y : A) → Finds P None → P y → ⊥
none_is P y f q = let e : None ≡ Some y = f.only y q in cc

-- a record is known from its kind and its words
pub known : (kind : ℕ) (body : List ℕ) (row : Record) → IsBody kind body row → record_of kind body ≡ row
known kind body row h =
    ap (λ k. record_of k body) (sym h.0) ∙ ap (record_of (kind_of row)) (sym h.1) ∙ record_back row h.2

-- kinds that are known
pub kinds : (row : Record) → (1 ≤ kind_of row) × (kind_of row ≤ 10)
kinds (TaskRow task was) = (omega arith, omega arith)
kinds (NoTaskRow task) = (omega arith, omega arith)
kinds (ShadowVariable key was) = (omega arith, omega arith)
kinds (NoShadowVariable key) = (omega arith, omega arith)
kinds (StateValue patch id was) = (omega arith, omega arith)
kinds (StateRow patch id was) = (omega arith, omega arith)
kinds (LoadedFlag object was) = (omega arith, omega arith)
kinds (InstalledPatch patch place) = (omega arith, omega arith)
kinds (StackEntry site patch was) = (omega arith, omega arith)
kinds (HookFlag site was) = (omega arith, omega arith)
kinds (Moving was) = (omega arith, omega arith)
kinds NothingMoving = (omega arith, omega arith)
kinds (PinnedFlag patch was) = (omega arith, omega arith)
