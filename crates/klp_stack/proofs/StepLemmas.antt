-- The steps of the pool, as changes of the stacks.
use Rattle.std.proofs.Common.{◌≡◌, ◌≢◌, ℕ, zero, suc, ◌+◌, ◌-◌, ◌<◌, ◌≤◌, true, false, not, ◌&&◌, List, [], ◌∷◌, length, map, get_or, set, ltb, refl, sym, ap, subst, ◌∙◌, arith, Option, Some}
use Rattle.std.specs.Bool.{◌==◌}
use Rattle.std.specs.List.{insert, remove}
use Rattle.std.proofs.lemmas.Bool.{ltb-true, ltb-false}
use Rattle.std.proofs.lemmas.List.{length-map, get_or-map, get_or_default, get_or-set_same}
use Rattle.std.proofs.lemmas.List.Sums.{sum_by-set}
use Rattle.klp_types.specs.declared.limits.TheConstants.{MAX_PATCHES}
use Rattle.klp_types.specs.declared.record.Place.{Place}
use Rattle.klp_types.specs.declared.version.Entry.{Entry}
use Rattle.klp_types.specs.Entries.{is_empty}
use Rattle.klp_stack.specs.declared.slot.Slot.{Slot}
use Rattle.klp_stack.specs.declared.slot.TheConstants.{MAX_ENTRIES}
use Rattle.klp_stack.specs.declared.chain.Chain.{Chain}
use Rattle.klp_stack.specs.Stack.{IsStack, entries_at, has_entry, entries_of_others, place_of}
use Rattle.klp_stack.specs.Undo.{may_be_at, put_at, put_entry}
use Rattle.klp_stack.specs.Spare.{held, spare_in}
use Rattle.klp_stack.specs.Pool.{slot_at, slot_below, entries_from, entries_of, chain_at, IsLinked, IsOwned, IsPool}
use Rattle.klp_stack.specs.Linking.{linked_to, filled, IsTaken, IsPutIn}
use Rattle.klp_stack.proofs.EntryLemmas.{few_entries}
use Rattle.klp_stack.proofs.StackLemmas.{taken, put_in, empty_is, first_put}
use Rattle.klp_stack.proofs.ChainLemmas.{length_entries}
use Rattle.klp_stack.proofs.PoolLemmas.{more, more-add, linked, owned_below, stacks_after, pool_after}
use Rattle.klp_stack.proofs.LinkLemmas.{Changed, put_on_top, put_below, take_top, take_below}

abbrev Entries : Type 0
Entries = List Entry

insert_first : (es : List Entry) (e : Entry) → insert es 0 e ≡ e ∷ es
insert_first [] e = refl
insert_first (x ∷ xs) e = refl

module _ (slots : List Slot) (chains : List Chain) (free spare : ℕ) (pool : IsPool slots chains free spare) where
  -- what the pool says of its parts
  pub spare_is : (now : List Entries) → map (entries_of slots) chains ≡ now → spare ≡ spare_in now
  spare_is now view = let count = ap held view in omega (arith, pool.all, count)

  module _ (site : ℕ) (there : site < length chains) where
    pub its_links : IsLinked slots (chain_at chains site).len (chain_at chains site).newest
    its_links = linked pool.owners slots (suc site) (chain_at chains site).len (chain_at chains site).newest (pool.sites site there)

    pub its_height : (chain_at chains site).len ≤ MAX_PATCHES
    its_height =
        let few = few_entries (entries_of slots (chain_at chains site)) (pool.stacks site there) in
        omega (arith, few, length_entries slots (chain_at chains site).len (chain_at chains site).newest)

    pub its_entries : (now : List Entries) → map (entries_of slots) chains ≡ now → entries_of slots (chain_at chains site) ≡ entries_at now site
    its_entries now view = sym (get_or-map (entries_of slots) chains site (record { newest = 0; len = 0 }) [] there) ∙ ap (λ s. entries_at s site) view

    -- what a change leaves
    pub record Left (now : List Slot) (chain : Chain) (free_now spare_now : ℕ) (es : Entries) : Type 0 where
      pub invariant : IsPool now (set chains site chain) free_now spare_now
      pub view : map (entries_of now) (set chains site chain) ≡ set (map (entries_of slots) chains) site es

    pub left : (now : List Slot) (n newest free_now spare_now : ℕ) (es : Entries) → Changed pool.owners slots now (suc site) n newest free_now spare_now es → IsStack es
        → n + spare_now ≡ (chain_at chains site).len + spare → Left now (record { newest = newest; len = n }) free_now spare_now es
    left now n newest free_now spare_now es changed stack count =
        let chain : Chain = record { newest = newest; len = n } in
        record {
          invariant = pool_after slots chains free spare pool site there now changed.long changed.after chain changed.others es changed.entries_are free_now spare_now stack changed.own changed.unused count;
          view = stacks_after slots chains free spare pool site there now changed.long changed.after chain changed.others es changed.entries_are;
        }

    abbrev n : ℕ
    n = (chain_at chains site).len

    abbrev newest : ℕ
    newest = (chain_at chains site).newest

    abbrev entries : Entries
    entries = entries_of slots (chain_at chains site)

    used : suc site ≢ 0
    used same = let no : ⊥ = omega arith in no

    -- an entry is put in, where so many are older
    pub put : 0 < spare → (i : ℕ) (entry : Entry) (now : List Slot) (newest_now : ℕ) → i ≤ n → IsStack (put_at i entry entries)
        → IsPutIn slots now (chain_at chains site) i entry free newest_now
        → Left now (record { newest = newest_now; len = n + 1 }) (slot_at slots free).older (spare - 1) (put_at i entry entries)
    put some i entry now newest_now within stack is =
        let more_free : suc (spare - 1) ≡ spare = omega arith in
        let unused = subst (λ l. IsOwned pool.owners slots 0 l free) (sym more_free) pool.unused in
        let long = length_entries slots n newest in
        let one : suc n ≡ n + 1 = omega arith in
        let change : Changed pool.owners slots now (suc site) (suc n) newest_now (slot_at slots free).older (spare - 1) (put_at i entry entries) =
        elim (ltb i n) as (λ b. ltb i n ≡ b → Changed pool.owners slots now (suc site) (suc n) newest_now (slot_at slots free).older (spare - 1) (put_at i entry entries)) [
          | true ↦ λ e.
              let low : i < n = ltb-true i n e in
              let here = is.below low in
              let goal : List Slot = linked_to (filled slots free entry (slot_at slots (slot_below slots (n - 1 - i) newest)).older) (slot_below slots (n - 1 - i) newest) free in
              let count : n ≡ more (n - 1 - i) (suc i) = omega (arith, more-add (n - 1 - i) (suc i)) in
              let Q : List Slot → ℕ → Type 0 = λ s m. Changed pool.owners slots s (suc site) (suc n) m (slot_at slots free).older (spare - 1) (put_at i entry entries) in
              let goes = put_below pool.owners slots (suc site) n newest free used (pool.sites site there) (spare - 1) unused entry i (n - 1 - i) (slot_below slots (n - 1 - i) newest) count refl in
              let at : n - i ≡ length entries - i = omega (arith, long) in
              subst (λ s. Q s newest_now) (sym here.0)
              (subst (Q goal) (sym here.1)
              (subst (λ k. Changed pool.owners slots goal (suc site) (suc n) newest (slot_at slots free).older (spare - 1) (insert entries k entry)) at goes))
          | false ↦ λ e.
              let top : i ≡ n = let high = ltb-false i n e in omega arith in
              let here = is.top top in
              let goal : List Slot = filled slots free entry newest in
              let Q : List Slot → ℕ → Type 0 = λ s m. Changed pool.owners slots s (suc site) (suc n) m (slot_at slots free).older (spare - 1) (put_at i entry entries) in
              let goes = put_on_top pool.owners slots (suc site) n newest free used (pool.sites site there) (spare - 1) unused entry i top in
              let at : 0 ≡ length entries - i = omega (arith, long) in
              subst (λ s. Q s newest_now) (sym here.0)
              (subst (Q goal) (sym here.1)
              (subst (λ k. Changed pool.owners slots goal (suc site) (suc n) free (slot_at slots free).older (spare - 1) (insert entries k entry)) at
              (subst (Changed pool.owners slots goal (suc site) (suc n) free (slot_at slots free).older (spare - 1)) (sym (insert_first entries entry)) goes)))
        ] refl in
        subst (λ l. Left now (record { newest = newest_now; len = l }) (slot_at slots free).older (spare - 1) (put_at i entry entries)) one
        (left now (suc n) newest_now (slot_at slots free).older (spare - 1) (put_at i entry entries) change stack (omega arith))

    -- an entry is taken out, that has so many older ones
    pub take : (i : ℕ) (now : List Slot) (newest_now free_now : ℕ) → i < n → IsStack (remove entries (n - 1 - i))
        → IsTaken slots now (chain_at chains site) i free newest_now free_now
        → Left now (record { newest = newest_now; len = n - 1 }) free_now (spare + 1) (remove entries (n - 1 - i))
    take i now newest_now free_now within stack is =
        let one : suc spare ≡ spare + 1 = omega arith in
        let change : Changed pool.owners slots now (suc site) (n - 1) newest_now free_now (suc spare) (remove entries (n - 1 - i)) =
        elim (ltb (i + 1) n) as (λ b. ltb (i + 1) n ≡ b → Changed pool.owners slots now (suc site) (n - 1) newest_now free_now (suc spare) (remove entries (n - 1 - i))) [
          | true ↦ λ e.
              let low : i + 1 < n = ltb-true (i + 1) n e in
              let here = is.below low in
              let count : n ≡ more (n - 2 - i) (suc (suc i)) = omega (arith, more-add (n - 2 - i) (suc (suc i))) in
              let above = slot_below slots (n - 2 - i) newest in
              let goal : List Slot = linked_to (linked_to slots above (slot_at slots (slot_at slots above).older).older) (slot_at slots above).older free in
              let owned = owned_below pool.owners slots (suc site) (n - 2 - i) (suc (suc i)) newest (subst (λ l. IsOwned pool.owners slots (suc site) l newest) count (pool.sites site there)) in
              let goes = take_below pool.owners slots (suc site) n newest free used (pool.sites site there) spare pool.unused i (slot_at slots above).older owned.3 (n - 2 - i) above count refl refl in
              let Q : List Slot → ℕ → ℕ → Type 0 = λ s m f. Changed pool.owners slots s (suc site) (n - 1) m f (suc spare) (remove entries (n - 1 - i)) in
              subst (λ s. Q s newest_now free_now) (sym here.0) (subst (λ m. Q goal m free_now) (sym here.1) (subst (Q goal newest) (sym here.2) goes))
          | false ↦ λ e.
              let top : i + 1 ≡ n = let high = ltb-false (i + 1) n e in omega arith in
              let here = is.top top in
              let goal : List Slot = linked_to slots newest free in
              let count : n ≡ suc i = omega arith in
              let owned = subst (λ l. IsOwned pool.owners slots (suc site) l newest) count (pool.sites site there) in
              let goes = take_top pool.owners slots (suc site) n newest free used (pool.sites site there) spare pool.unused i newest owned count refl in
              let Q : List Slot → ℕ → ℕ → Type 0 = λ s m f. Changed pool.owners slots s (suc site) (n - 1) m f (suc spare) (remove entries (n - 1 - i)) in
              subst (λ s. Q s newest_now free_now) (sym here.0) (subst (λ m. Q goal m free_now) (sym here.1) (subst (Q goal (slot_at slots newest).older) (sym here.2) goes))
        ] refl in
        subst (λ f. Left now (record { newest = newest_now; len = n - 1 }) free_now f (remove entries (n - 1 - i))) one
        (left now (n - 1) newest_now free_now (suc spare) (remove entries (n - 1 - i)) change stack (omega (arith, within)))

  -- the stack of a site as it is read
  pub record Read (now : List Entries) (site : ℕ) (chain : Chain) : Type 0 where
    pub links : IsLinked slots chain.len chain.newest
    pub height : chain.len ≤ MAX_PATCHES
    pub entries_are : entries_from slots chain.len chain.newest ≡ entries_at now site
    pub is_stack : IsStack (entries_at now site)
    pub count : chain.len ≡ length (entries_at now site)

  pub read : (now : List Entries) → map (entries_of slots) chains ≡ now → (seen : List Chain) (at site : ℕ) (chain : Chain) → seen ≡ chains → at ≡ site → at < length seen
      → chain ≡ get_or seen at (record { newest = 0; len = 0 }) → Read now site chain
  read now view seen at site chain same here within is =
      let there : site < length chains = omega (arith, within, here, ap length same) in
      let one : chain_at chains site ≡ chain =
      sym (is ∙ ap (λ cs. get_or cs at (record { newest = 0; len = 0 })) same ∙ ap (λ k. chain_at chains k) here)
      in
      let its = its_entries site there now view in
      subst (Read now site) one (record {
        links = its_links site there;
        height = its_height site there;
        entries_are = its;
        is_stack = subst IsStack its (pool.stacks site there);
        count = sym (length_entries slots (chain_at chains site).len (chain_at chains site).newest) ∙ ap length its;
      })

  -- the stack of a site as it is looked up to be changed
  pub record Looked (now : List Entries) (at site : ℕ) (chain : Chain) : Type 0 where
    pub within : site < length now
    pub is : chain ≡ get_or chains at chain

  pub looked : (now : List Entries) → map (entries_of slots) chains ≡ now → (seen : List Chain) (at site : ℕ) (chain : Chain) → seen ≡ chains → at ≡ site → at < length seen
      → chain ≡ get_or seen at chain → Looked now at site chain
  looked now view seen at site chain same here within is = record {
    within = omega (arith, within, here, ap length same, ap length view, length-map chains (entries_of slots));
    is = is ∙ ap (λ cs. get_or cs at chain) same;
  }

  -- the stack of a site as it is changed
  module _ (now : List Entries) (view : map (entries_of slots) chains ≡ now) (at site : ℕ) (chain : Chain) (here : at ≡ site) (within : site < length now) (is : chain ≡ get_or chains at chain) where
    in_chains : site < length chains
    in_chains = omega (arith, within, ap length view, length-map chains (entries_of slots))

    it_is : chain ≡ chain_at chains site
    it_is = is ∙ ap (λ k. get_or chains k chain) here ∙ get_or_default chains site chain (record { newest = 0; len = 0 }) in_chains

    pub found_there : Read now site chain
    found_there = subst (Read now site) (sym it_is) (read now view chains site site (chain_at chains site) refl refl in_chains refl)

    -- what the change leaves
    pub record Done (slots_now : List Slot) (result : Chain) (free_now spare_now : ℕ) (es : Entries) : Type 0 where
      pub invariant : IsPool slots_now (set chains at result) free_now spare_now
      pub stacks : map (entries_of slots_now) (set chains at result) ≡ set now site es

    done : (slots_now : List Slot) (result : Chain) (free_now spare_now : ℕ) (es : Entries) → Left site in_chains slots_now result free_now spare_now es → Done slots_now result free_now spare_now es
    done slots_now result free_now spare_now es left = record {
      invariant = subst (λ k. IsPool slots_now (set chains k result) free_now spare_now) (sym here) left.invariant;
      stacks = ap (λ k. map (entries_of slots_now) (set chains k result)) here ∙ left.view ∙ ap (λ s. set s site es) view;
    }

    same_entries : entries_of slots (chain_at chains site) ≡ entries_at now site
    same_entries = its_entries site in_chains now view

    pub some_free : 0 < spare_in now → 0 < spare
    some_free room = omega (arith, room, spare_is now view)

    pub free_there : 0 < spare_in now → free < length slots
    free_there room = by spare (omega (arith, room, spare_is now view)) pool.unused
      where
        by : (s : ℕ) → 0 < s → IsOwned pool.owners slots 0 s free → free < length slots
        by zero some owned = absurd (omega arith)
        by (suc s) some owned = owned.0

    pub not_all_free : 0 < chain.len → spare < MAX_ENTRIES
    not_all_free some =
        let sums = sum_by-set length now site [] [] within in
        omega (arith, sums, found_there.count, pool.all, ap held view, some)

    -- an entry is put in, where so many are older
    pub put_done : 0 < spare_in now → (i : ℕ) (entry : Entry) (slots_now : List Slot) (result : Chain) (free_now spare_now : ℕ) → i ≤ chain.len
        → IsStack (put_at i entry (entries_at now site)) → IsPutIn slots slots_now chain i entry free result.newest → result.len ≡ chain.len + 1
        → free_now ≡ (slot_at slots free).older → spare_now ≡ spare - 1 → Done slots_now result free_now spare_now (put_at i entry (entries_at now site))
    put_done room i entry slots_now result free_now spare_now low stack is_put long frees fewer =
        let n = (chain_at chains site).len in
        let count : result.len ≡ n + 1 = long ∙ ap (λ (c : Chain). c.len + 1) it_is in
        let is_left = put site in_chains (some_free room) i entry slots_now result.newest (omega (arith, low, ap (λ (c : Chain). c.len) it_is))
        (subst (λ es. IsStack (put_at i entry es)) (sym same_entries) stack) (subst (λ c. IsPutIn slots slots_now c i entry free result.newest) it_is is_put)
        in
        done slots_now result free_now spare_now (put_at i entry (entries_at now site))
        (subst (λ l. Left site in_chains slots_now (record { newest = result.newest; len = l }) free_now spare_now (put_at i entry (entries_at now site))) (sym count)
        (subst (λ f. Left site in_chains slots_now (record { newest = result.newest; len = n + 1 }) f spare_now (put_at i entry (entries_at now site))) (sym frees)
        (subst (λ s. Left site in_chains slots_now (record { newest = result.newest; len = n + 1 }) (slot_at slots free).older s (put_at i entry (entries_at now site))) (sym fewer)
        (subst (λ es. Left site in_chains slots_now (record { newest = result.newest; len = n + 1 }) (slot_at slots free).older (spare - 1) (put_at i entry es)) same_entries is_left))))

    -- an entry is put on top
    pub push_done : 0 < spare_in now → (entry : Entry) (slots_now : List Slot) (result : Chain) (free_now spare_now : ℕ) → has_entry entry.patch (entries_at now site) ≡ false
        → entry.patch < MAX_PATCHES → result ≡ record { newest = free; len = chain.len + 1 } → slots_now ≡ filled slots free entry chain.newest
        → free_now ≡ (slot_at slots free).older → spare_now ≡ spare - 1 → Done slots_now result free_now spare_now (entry ∷ entries_at now site)
    push_done room entry slots_now result free_now spare_now fresh number is_result is_slots frees fewer =
        let es = entries_at now site in
        let none : length es - chain.len ≡ 0 = omega (arith, found_there.count) in
        let top : put_at chain.len entry es ≡ entry ∷ es = ap (λ k. insert es k entry) none ∙ insert_first es entry in
        let stack : IsStack (put_at chain.len entry es) = subst IsStack (sym top) (number, fresh, found_there.is_stack) in
        subst (Done slots_now result free_now spare_now) top
        (put_done room chain.len entry slots_now result free_now spare_now (omega arith) stack
        (record { top = λ same. (is_slots, ap (λ (c : Chain). c.newest) is_result); below = λ low. absurd (omega (arith, low)) })
        (ap (λ (c : Chain). c.len) is_result) frees fewer)

    -- an entry is taken out, that has so many older ones
    pub take_done : (i : ℕ) (slots_now : List Slot) (result : Chain) (free_now spare_now : ℕ) → i < chain.len
        → IsStack (remove (entries_at now site) (length (entries_at now site) - 1 - i)) → IsTaken slots slots_now chain i free result.newest free_now → result.len ≡ chain.len - 1
        → spare_now ≡ spare + 1 → Done slots_now result free_now spare_now (remove (entries_at now site) (length (entries_at now site) - 1 - i))
    take_done i slots_now result free_now spare_now low stack is_taken short more_spare =
        let n = (chain_at chains site).len in
        let count : result.len ≡ n - 1 = short ∙ ap (λ (c : Chain). c.len - 1) it_is in
        let at_end : n - 1 - i ≡ length (entries_at now site) - 1 - i = omega (arith, found_there.count, ap (λ (c : Chain). c.len) it_is) in
        let same : remove (entries_of slots (chain_at chains site)) (n - 1 - i) ≡ remove (entries_at now site) (length (entries_at now site) - 1 - i) =
        ap (λ es. remove es (n - 1 - i)) same_entries ∙ ap (remove (entries_at now site)) at_end
        in
        let is_left = take site in_chains i slots_now result.newest free_now (omega (arith, low, ap (λ (c : Chain). c.len) it_is))
        (subst IsStack (sym same) stack) (subst (λ c. IsTaken slots slots_now c i free result.newest free_now) it_is is_taken)
        in
        done slots_now result free_now spare_now (remove (entries_at now site) (length (entries_at now site) - 1 - i))
        (subst (λ l. Left site in_chains slots_now (record { newest = result.newest; len = l }) free_now spare_now (remove (entries_at now site) (length (entries_at now site) - 1 - i))) (sym count)
        (subst (λ s. Left site in_chains slots_now (record { newest = result.newest; len = n - 1 }) free_now s (remove (entries_at now site) (length (entries_at now site) - 1 - i))) (sym more_spare)
        (subst (Left site in_chains slots_now (record { newest = result.newest; len = n - 1 }) free_now (spare + 1)) same is_left)))

    -- where its entry is
    pub is_place : (patch : ℕ) (place : Option Place) → place ≡ place_of patch (entries_of slots chain) → place ≡ place_of patch (entries_at now site)
    is_place patch place is_so = is_so ∙ ap (place_of patch) found_there.entries_are

    -- the entry of a patch is taken out
    pub record TakenOut (patch : ℕ) (slots_now : List Slot) (left : Chain) (free_now spare_now : ℕ) : Type 0 where
      pub invariant : IsPool slots_now (set chains at left) free_now spare_now
      pub stacks : map (entries_of slots_now) (set chains at left) ≡ set now site (entries_of_others patch (entries_at now site))
      pub undo : put_entry patch (place_of patch (entries_at now site)) (entries_of_others patch (entries_at now site)) ≡ entries_at now site
      pub last : (left.len == 0) ≡ is_empty (entries_of_others patch (entries_at now site))

    pub taken_out : (patch : ℕ) (place : Place) (slots_now : List Slot) (left : Chain) (free_now spare_now : ℕ) → Some place ≡ place_of patch (entries_of slots chain)
        → place.index < chain.len → left.len ≡ chain.len - 1 → IsTaken slots slots_now chain place.index free left.newest free_now → spare_now ≡ spare + 1
        → TakenOut patch slots_now left free_now spare_now
    taken_out patch place slots_now left free_now spare_now there low short links more_spare =
        let es = entries_at now site in
        let is = sym (is_place patch (Some place) there) in
        let was = taken patch es (remove es (length es - 1 - place.index)) place found_there.is_stack is refl in
        let done = take_done place.index slots_now left free_now spare_now low was.stack links short more_spare in
        record {
          invariant = done.invariant;
          stacks = done.stacks ∙ ap (set now site) was.others;
          undo = ap (λ w. put_entry patch w (entries_of_others patch es)) is ∙ was.undo;
          last =
              empty_is (remove es (length es - 1 - place.index)) left.len (omega (arith, short, found_there.count, was.fewer))
              ∙ ap is_empty was.others;
        }

    -- it gets its place again
    pub record PutBack (patch : ℕ) (place : Place) (slots_now : List Slot) (result : Chain) (free_now spare_now : ℕ) : Type 0 where
      pub invariant : IsPool slots_now (set chains at result) free_now spare_now
      pub stacks : map (entries_of slots_now) (set chains at result) ≡ set now site (put_entry patch (Some place) (entries_at now site))
      pub first : (chain.len == 0) ≡ (is_empty (entries_at now site) && not (is_empty (entries_at (map (entries_of slots_now) (set chains at result)) site)))

    pub put_again : 0 < spare_in now → (patch : ℕ) (place : Place) (slots_now : List Slot) (result : Chain) (free_now spare_now : ℕ) → true ≡ may_be_at patch place.index (entries_of slots chain)
        → IsPutIn slots slots_now chain place.index (record { patch = patch; func = place.func }) free result.newest → result.len ≡ chain.len + 1
        → free_now ≡ (slot_at slots free).older → spare_now ≡ spare - 1 → PutBack patch place slots_now result free_now spare_now
    put_again room patch place slots_now result free_now spare_now may links long frees fewer =
        let es = entries_at now site in
        let entry : Entry = record { patch = patch; func = place.func } in
        let put = put_in es place.index patch place.func found_there.is_stack (sym (may ∙ ap (may_be_at patch place.index) found_there.entries_are)) in
        let done = put_done room place.index entry slots_now result free_now spare_now (omega (arith, put.within, found_there.count)) put.stack links long frees fewer in
        let seen : entries_at (map (entries_of slots_now) (set chains at result)) site ≡ put_at place.index entry es =
        ap (λ s. entries_at s site) done.stacks ∙ get_or-set_same now site (put_at place.index entry es) [] within
        in
        record {
          invariant = done.invariant;
          stacks = done.stacks ∙ ap (set now site) put.is;
          first = empty_is es chain.len found_there.count ∙ first_put es place.index entry ∙ sym (ap (λ s. is_empty es && not (is_empty s)) seen);
        }
