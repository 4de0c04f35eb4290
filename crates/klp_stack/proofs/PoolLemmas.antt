-- What becomes of the pool when a slot comes to a stack or leaves it: the slots of all others stay as they are.
use Rattle.std.proofs.Common.{◌≡◌, ◌≢◌, ℕ, zero, suc, ◌+◌, ◌<◌, true, false, eqb, List, [], ◌∷◌, ◌++◌, length, map, get_or, set, refl, sym, ap, subst, ◌∙◌, arith}
use Rattle.std.proofs.lemmas.Bool.{eq-eqb, eqb-true}
use Rattle.std.proofs.lemmas.List.{get_or-set_same, get_or-set_other, length-set, length-map, get_or-map}
use Rattle.std.proofs.lemmas.List.Sums.{sum_by-set}
use Rattle.klp_types.specs.declared.version.Entry.{Entry}
use Rattle.klp_stack.specs.declared.slot.Slot.{Slot}
use Rattle.klp_stack.specs.declared.chain.Chain.{Chain}
use Rattle.klp_stack.specs.Stack.{IsStack}
use Rattle.klp_stack.specs.Spare.{held}
use Rattle.klp_stack.specs.Pool.{slot_at, slot_below, entries_from, entries_of, chain_at, IsLinked, Owners, IsOwned, IsPool}
use Rattle.klp_stack.proofs.ChainLemmas.{below_first, length_entries}

-- some slots, and so many more below them
abbrev pub more : ℕ → ℕ → ℕ
more zero n = n
more (suc k) n = suc (more k n)

pub more-add : (k n : ℕ) → more k n ≡ k + n
more-add zero n = omega arith
more-add (suc k) n = let rest = more-add k n in omega arith

pub more-suc : (k n : ℕ) → more k (suc n) ≡ suc (more k n)
more-suc zero n = refl
more-suc (suc k) n = ap suc (more-suc k n)

pub linked : (owners : Owners) (slots : List Slot) (who n number : ℕ) → IsOwned owners slots who n number → IsLinked slots n number
linked owners slots who zero number owned = tt
linked owners slots who (suc n) number owned = (owned.0, linked owners slots who n (slot_at slots number).older owned.3)

pub owned_below : (owners : Owners) (slots : List Slot) (who k n number : ℕ) → IsOwned owners slots who (more k n) number → IsOwned owners slots who n (slot_below slots k number)
owned_below owners slots who zero n number owned = owned
owned_below owners slots who (suc k) n number owned =
    subst (IsOwned owners slots who n) (sym (below_first slots k number)) (owned_below owners slots who k n (slot_at slots number).older owned.3)

pub entries_more : (slots : List Slot) (k n number : ℕ) → entries_from slots (more k n) number ≡ entries_from slots k number ++ entries_from slots n (slot_below slots k number)
entries_more slots zero n number = refl
entries_more slots (suc k) n number =
    ap (λ es. (slot_at slots number).entry ∷ es)
    (entries_more slots k n (slot_at slots number).older
    ∙ ap (λ m. entries_from slots k (slot_at slots number).older ++ entries_from slots n m) (sym (below_first slots k number)))

-- a slot is as it was, and whose it was
pub record IsSame (owners after : Owners) (slots now : List Slot) (number : ℕ) : Type 0 where
  pub slot : slot_at now number ≡ slot_at slots number
  pub owner : after.owner number ≡ owners.owner number
  pub older : after.older number ≡ owners.older number

-- slots that stay as they are have the same entries
module _ (owners after : Owners) (slots now : List Slot) (long : length now ≡ length slots) (who : ℕ) where
  pub record IsKept (n number : ℕ) : Type 0 where
    pub owned : IsOwned after now who n number
    pub entries : entries_from now n number ≡ entries_from slots n number

  pub kept : (n number : ℕ) → IsOwned owners slots who n number → ((m : ℕ) → owners.owner m ≡ who → owners.older m < n → IsSame owners after slots now m) → IsKept n number
  kept zero number owned same = record { owned = tt; entries = refl }
  kept (suc n) number owned same =
      let here = same number owned.1 (omega (arith, owned.2)) in
      let next : (slot_at now number).older ≡ (slot_at slots number).older = ap (λ (s : Slot). s.older) here.slot in
      let rest = kept n (slot_at slots number).older owned.3 (λ m is low. same m is (omega arith)) in
      record {
        owned = (omega (arith, owned.0, long), here.owner ∙ owned.1, here.older ∙ owned.2, subst (IsOwned after now who n) (sym next) rest.owned);
        entries = ap (λ es. (slot_at now number).entry ∷ es) (ap (entries_from now n) next ∙ rest.entries) ∙ ap (λ (s : Slot). s.entry ∷ entries_from slots n (slot_at slots number).older) here.slot;
      }

-- one stack is changed: the others and the free list stay
module _ (slots : List Slot) (chains : List Chain) (free spare : ℕ) (pool : IsPool slots chains free spare) (site : ℕ) (there : site < length chains)
    (now : List Slot) (long : length now ≡ length slots) (after : Owners) (chain : Chain)
    (others : (m : ℕ) → pool.owners.owner m ≢ suc site → pool.owners.owner m ≢ 0 → IsSame pool.owners after slots now m) where
  other : (w : ℕ) → w ≢ site → w < length chains → IsKept pool.owners after slots now long (suc w) (chain_at chains w).len (chain_at chains w).newest
  other w apart within =
      kept pool.owners after slots now long (suc w) (chain_at chains w).len (chain_at chains w).newest (pool.sites w within)
      (λ m is low. others m (λ same. apart (omega arith)) (λ same. let no : ⊥ = omega arith in no))

  abbrev stacks_before : List (List Entry)
  stacks_before = map (entries_of slots) chains

  abbrev chains_after : List Chain
  chains_after = set chains site chain

  pub is_there : site < length stacks_before
  is_there = omega (arith, length-map chains (entries_of slots), there)

  module _ (es : List Entry) (its : entries_of now chain ≡ es) where
    pub stacks_after : map (entries_of now) chains_after ≡ set stacks_before site es
    stacks_after = by chains site (λ w apart within. (other w apart within).entries)
      where
        all_same : (cs : List Chain) → ((w : ℕ) → w < length cs → entries_of now (chain_at cs w) ≡ entries_of slots (chain_at cs w)) → map (entries_of now) cs ≡ map (entries_of slots) cs
        all_same [] same = refl
        all_same (c ∷ cs) same =
            ap (λ e. e ∷ map (entries_of now) cs) (same zero (omega arith)) ∙ ap (λ r. entries_of slots c ∷ r) (all_same cs (λ w within. same (suc w) (omega arith)))

        by : (cs : List Chain) (i : ℕ) → ((w : ℕ) → w ≢ i → w < length cs → entries_of now (chain_at cs w) ≡ entries_of slots (chain_at cs w))
            → map (entries_of now) (set cs i chain) ≡ set (map (entries_of slots) cs) i es
        by [] i same = refl
        by (c ∷ cs) zero same = ap (λ e. e ∷ map (entries_of now) cs) its ∙ ap (λ r. es ∷ r) (all_same cs (λ w within. same (suc w) (λ e. let no : ⊥ = omega arith in no) (omega arith)))
        by (c ∷ cs) (suc i) same =
            ap (λ e. e ∷ map (entries_of now) (set cs i chain)) (same zero (λ e. let no : ⊥ = omega arith in no) (omega arith))
            ∙ ap (λ r. entries_of slots c ∷ r) (by cs i (λ w apart within. same (suc w) (λ e. apart (omega arith)) (omega arith)))

    pub pool_after : (free_after spare_after : ℕ) → IsStack es → IsOwned after now (suc site) chain.len chain.newest → IsOwned after now 0 spare_after free_after
        → chain.len + spare_after ≡ (chain_at chains site).len + spare → IsPool now chains_after free_after spare_after
    pool_after free_after spare_after stack own unused count =
        let old = length_entries slots (chain_at chains site).len (chain_at chains site).newest in
        let new = length_entries now chain.len chain.newest ∙ refl in
        let was : get_or stacks_before site [] ≡ entries_of slots (chain_at chains site) = get_or-map (entries_of slots) chains site (record { newest = 0; len = 0 }) [] there in
        let sums = sum_by-set length stacks_before site es [] is_there in
        record {
          room = long ∙ pool.room;
          owners = after;
          sites = λ w within. elim (eqb w site) as (λ b. eqb w site ≡ b → IsOwned after now (suc w) (chain_at chains_after w).len (chain_at chains_after w).newest) [
            | true ↦ λ e. let same : w ≡ site = eqb-true w site e in
                let c : chain_at chains_after site ≡ chain = get_or-set_same chains site chain (record { newest = 0; len = 0 }) there in
                subst (λ v. IsOwned after now (suc v) (chain_at chains_after v).len (chain_at chains_after v).newest) (sym same)
                (subst (λ (v : Chain). IsOwned after now (suc site) v.len v.newest) (sym c) own)
            | false ↦ λ e. let apart : w ≢ site = λ same. let no : true ≡ false = sym (eq-eqb w site same) ∙ e in let none : ⊥ = cc in none in
                let c : chain_at chains_after w ≡ chain_at chains w = get_or-set_other chains site w chain (record { newest = 0; len = 0 }) apart in
                subst (λ (v : Chain). IsOwned after now (suc w) v.len v.newest) (sym c) (other w apart (omega (arith, within, length-set chains site chain))).owned
          ] refl;
          stacks = λ w within. elim (eqb w site) as (λ b. eqb w site ≡ b → IsStack (entries_of now (chain_at chains_after w))) [
            | true ↦ λ e. let same : w ≡ site = eqb-true w site e in
                let c : chain_at chains_after site ≡ chain = get_or-set_same chains site chain (record { newest = 0; len = 0 }) there in
                subst (λ v. IsStack (entries_of now (chain_at chains_after v))) (sym same) (subst IsStack (sym (ap (entries_of now) c ∙ its)) stack)
            | false ↦ λ e. let apart : w ≢ site = λ same. let no : true ≡ false = sym (eq-eqb w site same) ∙ e in let none : ⊥ = cc in none in
                let c : chain_at chains_after w ≡ chain_at chains w = get_or-set_other chains site w chain (record { newest = 0; len = 0 }) apart in
                let low : w < length chains = omega (arith, within, length-set chains site chain) in
                subst IsStack (sym (ap (entries_of now) c ∙ (other w apart low).entries)) (pool.stacks w low)
          ] refl;
          unused = unused;
          all =
              let total : held (map (entries_of now) chains_after) ≡ held (set stacks_before site es) = ap held stacks_after in
              omega (arith, total, sums, pool.all, count, ap length was, old, ap length its, new);
        }
