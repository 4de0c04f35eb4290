-- Stacks that are filled, site by site, by the patches in order.
use Rattle.std.proofs.Common.{◌≡◌, ◌≢◌, ◌⊎◌, ℕ, zero, suc, ◌+◌, ◌<◌, ◌≤◌, ◌==◌, ◌||◌, Bool, false, List, [], ◌∷◌, length, replicate, slice_set, refl, sym, ap, subst, ◌∙◌, arith, ⊎_elim}
use Rattle.std.proofs.lemmas.Bool.{ne_eqb}
use Rattle.std.proofs.lemmas.List.{get_or-set_same, get_or-set_other, length-set, length-replicate}
use Rattle.klp_types.specs.declared.version.Entry.{Entry}
use Rattle.klp_stack.specs.Stack.{entries_at, has_entry}

-- only patches below this one have an entry on the site, and the other sites are as they were
pub record IsFilling (before now : List (List Entry)) (site patch : ℕ) : Type 0 where
  pub sites : length now ≡ length before
  pub others : (other : ℕ) → other ≢ site → entries_at now other ≡ entries_at before other
  pub fresh : (newer : ℕ) → patch ≤ newer → has_entry newer (entries_at now site) ≡ false

pub nothing_filled : (stacks : List (List Entry)) (site : ℕ) → entries_at stacks site ≡ [] → IsFilling stacks stacks site 0
nothing_filled stacks site empty = record { sites = refl; others = λ other ne. refl; fresh = λ newer le. ap (has_entry newer) empty }

pub passed : (before now : List (List Entry)) (site patch : ℕ) → IsFilling before now site patch → IsFilling before now site (patch + 1)
passed before now site patch filling = record {
  sites = filling.sites;
  others = filling.others;
  fresh = λ newer le. filling.fresh newer (omega arith);
}

pub pushed : (before now after : List (List Entry)) (site patch : ℕ) → site < length now → IsFilling before now site patch
    → (after ≡ now) ⊎ ((entry : Entry) × (entry.patch ≡ patch) × (after ≡ slice_set now site (entry ∷ entries_at now site)))
    → IsFilling before after site (patch + 1)
pushed before now after site patch there filling =
    ⊎_elim (λ (e : after ≡ now). subst (λ s. IsFilling before s site (patch + 1)) (sym e) (passed before now site patch filling))
    (λ (p : (entry : Entry) × (entry.patch ≡ patch) × (after ≡ slice_set now site (entry ∷ entries_at now site))). by p.0 p.1 p.2)
  where
    by : (entry : Entry) → entry.patch ≡ patch → after ≡ slice_set now site (entry ∷ entries_at now site) → IsFilling before after site (patch + 1)
    by entry own is = record {
      sites = ap length is ∙ length-set now site (entry ∷ entries_at now site) ∙ filling.sites;
      others = λ other ne. ap (λ s. entries_at s other) is ∙ get_or-set_other now site other (entry ∷ entries_at now site) [] ne ∙ filling.others other ne;
      fresh = λ newer le.
          let apart : entry.patch ≢ newer = λ e. omega (arith, own, e) in
          ap (λ s. has_entry newer (entries_at s site)) is ∙ ap (has_entry newer) (get_or-set_same now site (entry ∷ entries_at now site) [] there)
          ∙ ap (λ b. b || has_entry newer (entries_at now site)) (ne_eqb entry.patch newer apart) ∙ filling.fresh newer (omega arith);
    }

-- the sites from this one on have no entries
pub record IsEmptyFrom (stacks : List (List Entry)) (site : ℕ) : Type 0 where
  pub sites : length stacks ≡ 256
  pub empty : (later : ℕ) → site ≤ later → entries_at stacks later ≡ []

pub empty_behind : (before after : List (List Entry)) (site : ℕ) → IsEmptyFrom before site → length after ≡ length before
    → ((other : ℕ) → other ≢ site → entries_at after other ≡ entries_at before other) → IsEmptyFrom after (site + 1)
empty_behind before after site was sites others = record {
  sites = sites ∙ was.sites;
  empty = λ later le. others later (λ e. omega (arith, e)) ∙ was.empty later (omega arith);
}

reads_nothing : (sites site : ℕ) → entries_at (replicate sites []) site ≡ []
reads_nothing zero site = refl
reads_nothing (suc sites) zero = refl
reads_nothing (suc sites) (suc site) = reads_nothing sites site

pub all_empty : (stacks : List (List Entry)) → stacks ≡ replicate 256 [] → IsEmptyFrom stacks 0
all_empty stacks is = record {
  sites = ap length is ∙ length-replicate {A = List Entry} 256 [];
  empty = λ later le. ap (λ s. entries_at s later) is ∙ reads_nothing 256 later;
}
