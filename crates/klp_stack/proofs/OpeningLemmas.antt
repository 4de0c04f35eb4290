-- The pool before any entry is put.
use Rattle.std.proofs.Common.{◌≡◌, ℕ, zero, suc, ◌+◌, ◌-◌, ◌*◌, ◌<◌, List, [], ◌∷◌, length, map, replicate, refl, sym, ap, subst, ◌∙◌, arith}
use Rattle.std.proofs.lemmas.List.Folds.{sum_by-replicate}
use Rattle.klp_stack.specs.declared.slot.Slot.{Slot}
use Rattle.klp_stack.specs.declared.slot.TheConstants.{MAX_ENTRIES}
use Rattle.klp_stack.specs.declared.chain.Chain.{Chain}
use Rattle.klp_stack.specs.Stack.{IsStack}
use Rattle.klp_stack.specs.Spare.{held}
use Rattle.klp_stack.specs.Pool.{entries_of, chain_at, IsFree, Owners, IsOwned, IsPool}

abbrev pub no_entry : Chain
no_entry = record { newest = 0; len = 0 }

all_empty : (sites site : ℕ) → chain_at (replicate sites no_entry) site ≡ no_entry
all_empty zero site = refl
all_empty (suc sites) zero = refl
all_empty (suc sites) (suc site) = all_empty sites site

-- no site has an entry
pub no_entries : (slots : List Slot) (sites : ℕ) → map (entries_of slots) (replicate sites no_entry) ≡ replicate sites []
no_entries slots zero = refl
no_entries slots (suc sites) = ap (λ s. [] ∷ s) (no_entries slots sites)

-- all slots are the free list's, in order
abbrev all_free : Owners
all_free = record { owner = λ m. 0; older = λ m. MAX_ENTRIES - 1 - m }

module _ (slots : List Slot) (free spare : ℕ) (unused : IsFree slots free spare) where
  free_from : (n number : ℕ) → number + n ≡ MAX_ENTRIES → IsOwned all_free slots 0 n number
  free_from zero number all = tt
  free_from (suc n) number all =
      let there : number < length slots = omega (arith, unused.room, all) in
      (there, refl, omega (arith, all), subst (IsOwned all_free slots 0 n) (sym (unused.links number there)) (free_from n (number + 1) (omega (arith, all))))

  pub opening : (chains : List Chain) (sites : ℕ) → chains ≡ replicate sites no_entry → IsPool slots chains free spare
  opening chains sites are = record {
    room = unused.room;
    owners = all_free;
    sites = λ site there. subst (λ (c : Chain). IsOwned all_free slots (suc site) c.len c.newest) (sym (ap (λ cs. chain_at cs site) are ∙ all_empty sites site)) tt;
    stacks = λ site there. subst (λ (c : Chain). IsStack (entries_of slots c)) (sym (ap (λ cs. chain_at cs site) are ∙ all_empty sites site)) tt;
    unused = subst (IsOwned all_free slots 0 spare) (sym unused.first) (free_from spare 0 (omega (arith, unused.count)));
    all =
        let none : held (map (entries_of slots) chains) ≡ sites * 0 = ap (λ cs. held (map (entries_of slots) cs)) are ∙ ap held (no_entries slots sites) ∙ sum_by-replicate length sites [] in
        omega (arith, none, unused.count);
  }
