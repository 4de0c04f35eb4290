-- An entry comes to a stack or leaves it.
use Rattle.std.proofs.Common.{◌≡◌, ◌≢◌, ℕ, zero, suc, ◌-◌, ◌<◌, ◌≤◌, true, false, ◌&&◌, cond, eqb, leb, ltb, List, [], ◌∷◌, ◌++◌, length, drop, refl, sym, ap, subst, ◌∙◌, arith, None}
use Rattle.std.specs.List.{insert, remove}
use Rattle.std.proofs.lemmas.Bool.{eq-eqb, eqb-true, ltb-true, leb-true, lt-ltb, le-leb, and_parts, and_from, cond-true, cond-false}
use Rattle.std.proofs.lemmas.List.{get_or-set_same, get_or-set_other, length-set, take_at, drop_at}
use Rattle.klp_types.specs.declared.version.Entry.{Entry}
use Rattle.klp_stack.specs.declared.slot.Slot.{Slot}
use Rattle.klp_stack.specs.Pool.{slot_at, slot_below, entries_from, Owners, IsOwned}
use Rattle.klp_stack.specs.Linking.{linked_to, filled}
use Rattle.klp_stack.proofs.ChainLemmas.{below_first, length_entries}
use Rattle.klp_stack.proofs.PoolLemmas.{more, more-add, more-suc, owned_below, entries_more, IsSame, IsKept, kept}

-- a test that answers false, or holds
not_equal : (a b : ℕ) → a ≢ b → eqb a b ≡ false
not_equal a b apart = elim (eqb a b) as (λ e. eqb a b ≡ e → e ≡ false) [ true ↦ λ e. absurd (apart (eqb-true a b e)) | false ↦ λ e. refl ] refl

-- one number is told another
abbrev updated : ℕ → ℕ → (ℕ → ℕ) → ℕ → ℕ
updated x v f m = cond (eqb m x) v (f m)

updated_own : (x v : ℕ) (f : ℕ → ℕ) → updated x v f x ≡ v
updated_own x v f = cond-true _ _ _ (eq-eqb x x refl)

updated_other : (x v : ℕ) (f : ℕ → ℕ) (m : ℕ) → m ≢ x → updated x v f m ≡ f m
updated_other x v f m apart = cond-false _ _ _ (not_equal m x apart)

-- where an entry comes, those above it have one more older one, and where one goes, one less
abbrev raised : Owners → ℕ → ℕ → ℕ → ℕ
raised owners who i m = cond (eqb (owners.owner m) who && leb i (owners.older m)) (suc (owners.older m)) (owners.older m)

abbrev lowered : Owners → ℕ → ℕ → ℕ → ℕ
lowered owners who i m = cond (eqb (owners.owner m) who && ltb i (owners.older m)) (owners.older m - 1) (owners.older m)

module _ (owners : Owners) (who i m : ℕ) where
  raised_above : owners.owner m ≡ who → i ≤ owners.older m → raised owners who i m ≡ suc (owners.older m)
  raised_above is high = cond-true _ _ _ (and_from _ _ (eq-eqb (owners.owner m) who is) (le-leb i (owners.older m) high))

  raised_low : owners.older m < i → raised owners who i m ≡ owners.older m
  raised_low low =
      elim (eqb (owners.owner m) who && leb i (owners.older m)) as (λ b. (eqb (owners.owner m) who && leb i (owners.older m)) ≡ b → cond b (suc (owners.older m)) (owners.older m) ≡ owners.older m) [
        | true ↦ λ e. let high : i ≤ owners.older m = leb-true _ _ (and_parts _ _ e).1 in absurd (omega arith)
        | false ↦ λ e. refl
      ] refl

  raised_other : owners.owner m ≢ who → raised owners who i m ≡ owners.older m
  raised_other apart = ap (λ b. cond (b && leb i (owners.older m)) (suc (owners.older m)) (owners.older m)) (not_equal (owners.owner m) who apart)

  lowered_above : owners.owner m ≡ who → i < owners.older m → lowered owners who i m ≡ owners.older m - 1
  lowered_above is high = cond-true _ _ _ (and_from _ _ (eq-eqb (owners.owner m) who is) (lt-ltb i (owners.older m) high))

  lowered_low : owners.older m ≤ i → lowered owners who i m ≡ owners.older m
  lowered_low low =
      elim (eqb (owners.owner m) who && ltb i (owners.older m)) as (λ b. (eqb (owners.owner m) who && ltb i (owners.older m)) ≡ b → cond b (owners.older m - 1) (owners.older m) ≡ owners.older m) [
        | true ↦ λ e. let high : i < owners.older m = ltb-true _ _ (and_parts _ _ e).1 in absurd (omega arith)
        | false ↦ λ e. refl
      ] refl

  lowered_other : owners.owner m ≢ who → lowered owners who i m ≡ owners.older m
  lowered_other apart = ap (λ b. cond (b && ltb i (owners.older m)) (owners.older m - 1) (owners.older m)) (not_equal (owners.owner m) who apart)

-- the slots that are written
linked_at : (slots : List Slot) (number older : ℕ) → number < length slots → slot_at (linked_to slots number older) number ≡ record (slot_at slots number) { older = older }
linked_at slots number older there = get_or-set_same slots number (record (slot_at slots number) { older = older }) (record { entry = record { patch = 0; func = None }; older = 0 }) there

linked_else : (slots : List Slot) (number older m : ℕ) → m ≢ number → slot_at (linked_to slots number older) m ≡ slot_at slots m
linked_else slots number older m apart =
    get_or-set_other slots number m (record (slot_at slots number) { older = older }) (record { entry = record { patch = 0; func = None }; older = 0 }) apart

filled_at : (slots : List Slot) (number : ℕ) (entry : Entry) (older : ℕ) → number < length slots → slot_at (filled slots number entry older) number ≡ record { entry = entry; older = older }
filled_at slots number entry older there = get_or-set_same slots number (record { entry = entry; older = older }) (record { entry = record { patch = 0; func = None }; older = 0 }) there

filled_else : (slots : List Slot) (number : ℕ) (entry : Entry) (older m : ℕ) → m ≢ number → slot_at (filled slots number entry older) m ≡ slot_at slots m
filled_else slots number entry older m apart =
    get_or-set_other slots number m (record { entry = entry; older = older }) (record { entry = record { patch = 0; func = None }; older = 0 }) apart

-- what a change of one stack leaves
pub record Changed (owners : Owners) (slots now : List Slot) (who n newest free spare : ℕ) (entries : List Entry) : Type 0 where
  pub after : Owners
  pub long : length now ≡ length slots
  pub own : IsOwned after now who n newest
  pub entries_are : entries_from now n newest ≡ entries
  pub unused : IsOwned after now 0 spare free
  pub others : (m : ℕ) → owners.owner m ≢ who → owners.owner m ≢ 0 → IsSame owners after slots now m

-- a stack of an owner, and the free list
module _ (owners : Owners) (slots : List Slot) (who n newest free : ℕ) (some : who ≢ 0) (owned : IsOwned owners slots who n newest) where
  -- an entry comes, where so many are older
  module _ (spare : ℕ) (unused : IsOwned owners slots 0 (suc spare) free) (entry : Entry) (i : ℕ) where
    abbrev with_one : Owners
    with_one = record { owner = updated free who owners.owner; older = updated free i (raised owners who i) }

    not_free : (m : ℕ) → owners.owner m ≢ 0 → m ≢ free
    not_free m apart same = apart (ap owners.owner same ∙ unused.1)

    same_in : (now : List Slot) (m : ℕ) → slot_at now m ≡ slot_at slots m → m ≢ free → raised owners who i m ≡ owners.older m → IsSame owners with_one slots now m
    same_in now m slot apart older = record { slot = slot; owner = updated_other free who owners.owner m apart; older = updated_other free i (raised owners who i) m apart ∙ older }

    -- the rest of the free list
    rest_free : (now : List Slot) → length now ≡ length slots → ((m : ℕ) → m ≢ free → owners.owner m ≢ who → slot_at now m ≡ slot_at slots m)
        → IsOwned with_one now 0 spare (slot_at slots free).older
    rest_free now long slot =
        (kept owners with_one slots now long 0 spare (slot_at slots free).older unused.3
        (λ m is low.
        let apart : m ≢ free = λ same. let here : owners.older m ≡ spare = ap owners.older same ∙ unused.2 in let no : ⊥ = omega arith in no in
        let other : owners.owner m ≢ who = λ same. some (sym same ∙ is) in
        same_in now m (slot m apart other) apart (raised_other owners who i m other))).owned

    -- on top
    pub put_on_top : i ≡ n → Changed owners slots (filled slots free entry newest) who (suc n) free (slot_at slots free).older spare (entry ∷ entries_from slots n newest)
    put_on_top top =
        let now = filled slots free entry newest in
        let long : length now ≡ length slots = length-set slots free (record { entry = entry; older = newest }) in
        let here = filled_at slots free entry newest unused.0 in
        let next : newest ≡ (slot_at now free).older = sym (ap (λ (s : Slot). s.older) here) in
        let below = kept owners with_one slots now long who n newest owned
        (λ m is low.
        let apart : m ≢ free = not_free m (λ zero_owner. some (sym is ∙ zero_owner)) in
        same_in now m (filled_else slots free entry newest m apart) apart (raised_low owners who i m (omega (arith, low, top))))
        in
        record {
          after = with_one;
          long = long;
          own = (omega (arith, unused.0, long), updated_own free who owners.owner, updated_own free i (raised owners who i) ∙ top, subst (IsOwned with_one now who n) next below.owned);
          entries_are = ap (λ (s : Slot). s.entry ∷ entries_from now n s.older) here ∙ ap (λ es. entry ∷ es) below.entries;
          unused = rest_free now long (λ m apart other. filled_else slots free entry newest m apart);
          others = λ m apart used.
              same_in now m (filled_else slots free entry newest m (not_free m used)) (not_free m used) (raised_other owners who i m apart);
        }

    -- below a slot that has so many older ones itself
    module _ (k : ℕ) (above : ℕ) (count : n ≡ more k (suc i)) (is_above : above ≡ slot_below slots k newest) where
      own_above : IsOwned owners slots who (suc i) above
      own_above = subst (IsOwned owners slots who (suc i)) (sym is_above) (owned_below owners slots who k (suc i) newest (subst (λ l. IsOwned owners slots who l newest) count owned))

      above_used : above ≢ free
      above_used = not_free above (λ zero_owner. some (sym own_above.1 ∙ zero_owner))

      abbrev next : ℕ
      next = (slot_at slots above).older

      abbrev now : List Slot
      now = linked_to (filled slots free entry next) above free

      long : length now ≡ length slots
      long = length-set (filled slots free entry next) above (record (slot_at (filled slots free entry next) above) { older = free }) ∙ length-set slots free (record { entry = entry; older = next })

      slot_else : (m : ℕ) → m ≢ free → m ≢ above → slot_at now m ≡ slot_at slots m
      slot_else m apart other = linked_else (filled slots free entry next) above free m other ∙ filled_else slots free entry next m apart

      slot_above : slot_at now above ≡ record (slot_at slots above) { older = free }
      slot_above =
          linked_at (filled slots free entry next) above free (omega (arith, own_above.0, length-set slots free (record { entry = entry; older = next })))
          ∙ ap (λ (s : Slot). record s { older = free }) (filled_else slots free entry next above above_used)

      slot_new : slot_at now free ≡ record { entry = entry; older = next }
      slot_new = linked_else (filled slots free entry next) above free free (λ same. above_used (sym same)) ∙ filled_at slots free entry next unused.0

      -- those below the new entry
      low : IsKept owners with_one slots now long who i next
      low = kept owners with_one slots now long who i next own_above.3
          (λ m is below.
          let apart : m ≢ free = not_free m (λ zero_owner. some (sym is ∙ zero_owner)) in
          let other : m ≢ above = λ same. let here : owners.older m ≡ i = ap owners.older same ∙ own_above.2 in let no : ⊥ = omega arith in no in
          same_in now m (slot_else m apart other) apart (raised_low owners who i m below))

      record Raised (steps number : ℕ) : Type 0 where
        pub owned_by : IsOwned with_one now who (suc (more steps (suc i))) number
        pub has : entries_from now (suc (more steps (suc i))) number ≡ entries_from slots (suc steps) number ++ entry ∷ entries_from slots i next

      new_owned : IsOwned with_one now who (suc i) free
      new_owned = (omega (arith, unused.0, long), updated_own free who owners.owner, updated_own free i (raised owners who i), subst (IsOwned with_one now who i) (sym (ap (λ (s : Slot). s.older) slot_new)) low.owned)

      new_entries : entries_from now (suc i) free ≡ entry ∷ entries_from slots i next
      new_entries = ap (λ (s : Slot). s.entry ∷ entries_from now i s.older) slot_new ∙ ap (λ es. entry ∷ es) low.entries

      raise : (steps number : ℕ) → IsOwned owners slots who (more steps (suc i)) number → above ≡ slot_below slots steps number → Raised steps number
      raise zero number has is =
          let P : ℕ → Type 0 = Raised zero in
          subst P is (record {
            owned_by = (
              omega (arith, own_above.0, long),
              updated_other free who owners.owner above above_used ∙ own_above.1,
              updated_other free i (raised owners who i) above above_used ∙ raised_above owners who i above own_above.1 (omega (arith, own_above.2)) ∙ ap suc own_above.2,
              subst (IsOwned with_one now who (suc i)) (sym (ap (λ (s : Slot). s.older) slot_above)) new_owned,
            );
            has = ap (λ (s : Slot). s.entry ∷ entries_from now (suc i) s.older) slot_above ∙ ap (λ es. (slot_at slots above).entry ∷ es) new_entries;
          })
      raise (suc steps) number has is =
          let rest = raise steps (slot_at slots number).older has.3 (is ∙ below_first slots steps number) in
          let apart : number ≢ free = not_free number (λ zero_owner. some (sym has.1 ∙ zero_owner)) in
          let high : i < owners.older number = omega (arith, has.2, more-add steps (suc i)) in
          let other : number ≢ above = λ same. let here : owners.older number ≡ i = ap owners.older same ∙ own_above.2 in let no : ⊥ = omega arith in no in
          let slot = slot_else number apart other in
          record {
            owned_by = (
              omega (arith, has.0, long),
              updated_other free who owners.owner number apart ∙ has.1,
              updated_other free i (raised owners who i) number apart ∙ raised_above owners who i number has.1 (omega arith) ∙ ap suc has.2,
              subst (IsOwned with_one now who (suc (more steps (suc i)))) (sym (ap (λ (s : Slot). s.older) slot)) rest.owned_by,
            );
            has = ap (λ (s : Slot). s.entry ∷ entries_from now (suc (more steps (suc i))) s.older) slot ∙ ap (λ es. (slot_at slots number).entry ∷ es) rest.has;
          }

      parts : entries_from slots n newest ≡ entries_from slots (suc k) newest ++ entries_from slots i next
      parts = ap (λ l. entries_from slots l newest) (count ∙ more-suc k i) ∙ entries_more slots (suc k) i newest ∙ ap (λ m. entries_from slots (suc k) newest ++ entries_from slots i (slot_at slots m).older) (sym is_above)

      put_entries : insert (entries_from slots n newest) (n - i) entry ≡ entries_from slots (suc k) newest ++ entry ∷ entries_from slots i next
      put_entries =
          let at : length (entries_from slots (suc k) newest) ≡ n - i = omega (arith, length_entries slots (suc k) newest, count, more-add k (suc i)) in
          ap (λ es. insert es (n - i) entry) parts
          ∙ ap (λ es. es ++ entry ∷ drop (n - i) (entries_from slots (suc k) newest ++ entries_from slots i next)) (take_at (entries_from slots (suc k) newest) (entries_from slots i next) (n - i) at)
          ∙ ap (λ es. entries_from slots (suc k) newest ++ entry ∷ es) (drop_at (entries_from slots (suc k) newest) (entries_from slots i next) (n - i) at)

      pub put_below : Changed owners slots now who (suc n) newest (slot_at slots free).older spare (insert (entries_from slots n newest) (n - i) entry)
      put_below =
          let all = raise k newest (subst (λ l. IsOwned owners slots who l newest) count owned) is_above in
          record {
            after = with_one;
            long = long;
            own = subst (λ l. IsOwned with_one now who (suc l) newest) (sym count) all.owned_by;
            entries_are = ap (λ l. entries_from now (suc l) newest) count ∙ all.has ∙ sym put_entries;
            unused = rest_free now long (λ m apart other. slot_else m apart (λ same. other (ap owners.owner same ∙ own_above.1)));
            others = λ m apart used.
                same_in now m (slot_else m (not_free m used) (λ same. apart (ap owners.owner same ∙ own_above.1))) (not_free m used) (raised_other owners who i m apart);
          }

  -- an entry goes, with so many older ones
  module _ (spare : ℕ) (unused : IsOwned owners slots 0 spare free) (i taken : ℕ) (taken_owned : IsOwned owners slots who (suc i) taken) where
    abbrev without : Owners
    without = record { owner = updated taken 0 owners.owner; older = updated taken spare (lowered owners who i) }

    not_taken : (m : ℕ) → owners.owner m ≢ who → m ≢ taken
    not_taken m apart same = apart (ap owners.owner same ∙ taken_owned.1)

    stays_in : (now : List Slot) (m : ℕ) → slot_at now m ≡ slot_at slots m → m ≢ taken → lowered owners who i m ≡ owners.older m → IsSame owners without slots now m
    stays_in now m slot apart older = record { slot = slot; owner = updated_other taken 0 owners.owner m apart; older = updated_other taken spare (lowered owners who i) m apart ∙ older }

    -- the free list with the slot as its first
    more_free : (now : List Slot) → length now ≡ length slots → (slot_at now taken).older ≡ free
        → ((m : ℕ) → m ≢ taken → owners.owner m ≢ who → slot_at now m ≡ slot_at slots m) → IsOwned without now 0 (suc spare) taken
    more_free now long linked slot =
        let rest = (kept owners without slots now long 0 spare free unused
        (λ m is low.
        let other : owners.owner m ≢ who = λ same. some (sym same ∙ is) in
        let apart = not_taken m other in
        stays_in now m (slot m apart other) apart (lowered_other owners who i m other))).owned
        in
        (omega (arith, taken_owned.0, long), updated_own taken 0 owners.owner, updated_own taken spare (lowered owners who i), subst (IsOwned without now 0 spare) (sym linked) rest)

    -- those below it
    rest_below : (now : List Slot) (long : length now ≡ length slots) → ((m : ℕ) → m ≢ taken → owners.owner m ≡ who → owners.older m < i → slot_at now m ≡ slot_at slots m)
        → IsKept owners without slots now long who i (slot_at slots taken).older
    rest_below now long slot =
        kept owners without slots now long who i (slot_at slots taken).older taken_owned.3
        (λ m is low.
        let apart : m ≢ taken = λ same. let here : owners.older m ≡ i = ap owners.older same ∙ taken_owned.2 in let no : ⊥ = omega arith in no in
        stays_in now m (slot m apart is low) apart (lowered_low owners who i m (omega arith)))

    removed_at : (before after : List Entry) (entry : Entry) (at : ℕ) → length before ≡ at → remove (before ++ entry ∷ after) at ≡ before ++ after
    removed_at before after entry at is =
        ap (λ es. es ++ drop (suc at) (before ++ entry ∷ after)) (take_at before (entry ∷ after) at is)
        ∙ ap (λ es. before ++ es) (ap (λ l. drop (suc l) (before ++ entry ∷ after)) (sym is) ∙ behind before)
      where
        behind : (before : List Entry) → drop (suc (length before)) (before ++ entry ∷ after) ≡ after
        behind [] = refl
        behind (first ∷ before) = behind before

    -- from the top
    pub take_top : n ≡ suc i → newest ≡ taken
        → Changed owners slots (linked_to slots taken free) who (n - 1) (slot_at slots taken).older taken (suc spare) (remove (entries_from slots n newest) (n - 1 - i))
    take_top count top =
        let now = linked_to slots taken free in
        let long : length now ≡ length slots = length-set slots taken (record (slot_at slots taken) { older = free }) in
        let here = linked_at slots taken free taken_owned.0 in
        let below = rest_below now long (λ m apart is low. linked_else slots taken free m apart) in
        let one_less : n - 1 ≡ i = omega arith in
        let first : n - 1 - i ≡ 0 = omega arith in
        let all : entries_from slots n newest ≡ (slot_at slots taken).entry ∷ entries_from slots i (slot_at slots taken).older =
        ap (λ l. entries_from slots l newest) count ∙ ap (entries_from slots (suc i)) top
        in
        record {
          after = without;
          long = long;
          own = subst (λ l. IsOwned without now who l (slot_at slots taken).older) (sym one_less) below.owned;
          entries_are =
              ap (λ l. entries_from now l (slot_at slots taken).older) one_less ∙ below.entries
              ∙ sym (ap (remove (entries_from slots n newest)) first ∙ ap (λ es. remove es 0) all);
          unused = more_free now long (ap (λ (s : Slot). s.older) here) (λ m apart other. linked_else slots taken free m apart);
          others = λ m apart used. stays_in now m (linked_else slots taken free m (not_taken m apart)) (not_taken m apart) (lowered_other owners who i m apart);
        }

    -- from below a slot
    module _ (k : ℕ) (above : ℕ) (count : n ≡ more k (suc (suc i))) (is_above : above ≡ slot_below slots k newest) (is_taken : taken ≡ (slot_at slots above).older) where
      above_owned : IsOwned owners slots who (suc (suc i)) above
      above_owned =
          subst (IsOwned owners slots who (suc (suc i))) (sym is_above) (owned_below owners slots who k (suc (suc i)) newest (subst (λ l. IsOwned owners slots who l newest) count owned))

      above_stays : above ≢ taken
      above_stays same = let one : owners.older above ≡ i = ap owners.older same ∙ taken_owned.2 in let other = above_owned.2 in let no : ⊥ = omega arith in no

      abbrev left : ℕ
      left = (slot_at slots taken).older

      abbrev cut : List Slot
      cut = linked_to (linked_to slots above left) taken free

      cut_long : length cut ≡ length slots
      cut_long = length-set (linked_to slots above left) taken (record (slot_at (linked_to slots above left) taken) { older = free }) ∙ length-set slots above (record (slot_at slots above) { older = left })

      cut_else : (m : ℕ) → m ≢ taken → m ≢ above → slot_at cut m ≡ slot_at slots m
      cut_else m apart other = linked_else (linked_to slots above left) taken free m apart ∙ linked_else slots above left m other

      cut_above : slot_at cut above ≡ record (slot_at slots above) { older = left }
      cut_above = linked_else (linked_to slots above left) taken free above above_stays ∙ linked_at slots above left above_owned.0

      cut_taken : (slot_at cut taken).older ≡ free
      cut_taken =
          ap (λ (s : Slot). s.older)
          (linked_at (linked_to slots above left) taken free (omega (arith, taken_owned.0, length-set slots above (record (slot_at slots above) { older = left }))))

      low_kept : IsKept owners without slots cut cut_long who i left
      low_kept = rest_below cut cut_long
          (λ m apart is low.
          let other : m ≢ above = λ same. let here : owners.older m ≡ suc i = ap owners.older same ∙ above_owned.2 in let no : ⊥ = omega arith in no in
          cut_else m apart other)

      record Lowered (steps number : ℕ) : Type 0 where
        pub owned_by : IsOwned without cut who (more steps (suc i)) number
        pub has : entries_from cut (more steps (suc i)) number ≡ entries_from slots (suc steps) number ++ entries_from slots i left

      lower : (steps number : ℕ) → IsOwned owners slots who (more steps (suc (suc i))) number → above ≡ slot_below slots steps number → Lowered steps number
      lower zero number has is =
          let P : ℕ → Type 0 = Lowered zero in
          subst P is (record {
            owned_by = (
              omega (arith, above_owned.0, cut_long),
              updated_other taken 0 owners.owner above above_stays ∙ above_owned.1,
              updated_other taken spare (lowered owners who i) above above_stays ∙ lowered_above owners who i above above_owned.1 (omega (arith, above_owned.2)) ∙ omega (arith, above_owned.2),
              subst (IsOwned without cut who i) (sym (ap (λ (s : Slot). s.older) cut_above)) low_kept.owned,
            );
            has = ap (λ (s : Slot). s.entry ∷ entries_from cut i s.older) cut_above ∙ ap (λ es. (slot_at slots above).entry ∷ es) low_kept.entries;
          })
      lower (suc steps) number has is =
          let rest = lower steps (slot_at slots number).older has.3 (is ∙ below_first slots steps number) in
          let high : suc i < owners.older number = omega (arith, has.2, more-add steps (suc (suc i))) in
          let apart : number ≢ taken = λ same. let here : owners.older number ≡ i = ap owners.older same ∙ taken_owned.2 in let no : ⊥ = omega arith in no in
          let other : number ≢ above = λ same. let here : owners.older number ≡ suc i = ap owners.older same ∙ above_owned.2 in let no : ⊥ = omega arith in no in
          let slot = cut_else number apart other in
          record {
            owned_by = (
              omega (arith, has.0, cut_long),
              updated_other taken 0 owners.owner number apart ∙ has.1,
              updated_other taken spare (lowered owners who i) number apart ∙ lowered_above owners who i number has.1 (omega arith) ∙ omega (arith, has.2, more-suc steps (suc i)),
              subst (IsOwned without cut who (more steps (suc i))) (sym (ap (λ (s : Slot). s.older) slot)) rest.owned_by,
            );
            has = ap (λ (s : Slot). s.entry ∷ entries_from cut (more steps (suc i)) s.older) slot ∙ ap (λ es. (slot_at slots number).entry ∷ es) rest.has;
          }

      all_parts : entries_from slots n newest ≡ entries_from slots (suc k) newest ++ (slot_at slots taken).entry ∷ entries_from slots i left
      all_parts =
          ap (λ l. entries_from slots l newest) (count ∙ more-suc k (suc i)) ∙ entries_more slots (suc k) (suc i) newest
          ∙ ap (λ m. entries_from slots (suc k) newest ++ entries_from slots (suc i) m) (ap (λ m. (slot_at slots m).older) (sym is_above) ∙ sym is_taken)

      pub take_below : Changed owners slots cut who (n - 1) newest taken (suc spare) (remove (entries_from slots n newest) (n - 1 - i))
      take_below =
          let all = lower k newest (subst (λ l. IsOwned owners slots who l newest) count owned) is_above in
          let one_less : n - 1 ≡ more k (suc i) = omega (arith, count, more-suc k (suc i)) in
          let at : length (entries_from slots (suc k) newest) ≡ n - 1 - i = omega (arith, length_entries slots (suc k) newest, count, more-add k (suc (suc i))) in
          record {
            after = without;
            long = cut_long;
            own = subst (λ l. IsOwned without cut who l newest) (sym one_less) all.owned_by;
            entries_are =
                ap (λ l. entries_from cut l newest) one_less ∙ all.has
                ∙ sym (ap (λ es. remove es (n - 1 - i)) all_parts ∙ removed_at (entries_from slots (suc k) newest) (entries_from slots i left) (slot_at slots taken).entry (n - 1 - i) at);
            unused = more_free cut cut_long cut_taken (λ m apart other. cut_else m apart (λ same. other (ap owners.owner same ∙ above_owned.1)));
            others = λ m apart used.
                stays_in cut m (cut_else m (not_taken m apart) (λ same. apart (ap owners.owner same ∙ above_owned.1))) (not_taken m apart) (lowered_other owners who i m apart);
          }
