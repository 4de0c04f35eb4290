-- Slots that are linked, and the entries that they have.
use Rattle.std.proofs.Common.{◌≡◌, ℕ, zero, suc, ◌-◌, ◌<◌, ◌≤◌, true, false, ◌||◌, List, ◌∷◌, length, get_or, refl, sym, ap, subst, ◌∙◌, arith, Some, None}
use Rattle.std.specs.Prelude.{slice_get, ◌==◌}
use Rattle.std.proofs.lemmas.Bool.{cond-true, cond-false}
use Rattle.std.proofs.lemmas.List.{get_or_default}
use Rattle.klp_stack.specs.declared.slot.Slot.{Slot}
use Rattle.klp_stack.specs.Stack.{has_entry, place_of}
use Rattle.klp_stack.specs.Pool.{slot_at, slot_below, entries_from, IsLinked}

module _ (slots : List Slot) where
  -- from the other end
  pub below_first : (steps number : ℕ) → slot_below slots (suc steps) number ≡ slot_below slots steps (slot_at slots number).older
  below_first zero number = refl
  below_first (suc steps) number = ap (λ m. (slot_at slots m).older) (below_first steps number)

  pub length_entries : (n number : ℕ) → length (entries_from slots n number) ≡ n
  length_entries zero number = refl
  length_entries (suc n) number = ap suc (length_entries n (slot_at slots number).older)

  pub linked_below : (n number : ℕ) → IsLinked slots n number → (steps : ℕ) → steps < n → slot_below slots steps number < length slots
  linked_below zero number linked steps within = absurd (omega arith)
  linked_below (suc n) number linked zero within = linked.0
  linked_below (suc n) number linked (suc steps) within =
      subst (λ m. m < length slots) (sym (below_first steps number)) (linked_below n (slot_at slots number).older linked.1 steps (omega arith))

  pub entry_at : (n number : ℕ) → (steps : ℕ) → steps < n → slice_get (entries_from slots n number) steps ≡ Some (slot_at slots (slot_below slots steps number)).entry
  entry_at zero number steps within = absurd (omega arith)
  entry_at (suc n) number zero within = refl
  entry_at (suc n) number (suc steps) within =
      entry_at n (slot_at slots number).older steps (omega arith) ∙ ap (λ m. Some (slot_at slots m).entry) (sym (below_first steps number))

  pub no_entry_at : (n number : ℕ) → (steps : ℕ) → n ≤ steps → slice_get (entries_from slots n number) steps ≡ None
  no_entry_at zero number steps past = refl
  no_entry_at (suc n) number zero past = absurd (omega arith)
  no_entry_at (suc n) number (suc steps) past = no_entry_at n (slot_at slots number).older steps (omega arith)

  -- a slot as it is read
  pub slot_read : (number at : ℕ) (slot : Slot) → at ≡ number → number < length slots → get_or slots at slot ≡ slot_at slots number
  slot_read number at slot here there =
      ap (λ k. get_or slots k slot) here ∙ get_or_default slots number slot (record { entry = record { patch = 0; func = None }; older = 0 }) there

  -- the slot where so many are left
  pub record Step (index number : ℕ) (slot : Slot) : Type 0 where
    pub within : number < length slots
    pub linked : IsLinked slots (index - 1) slot.older
    pub entries : entries_from slots index number ≡ slot.entry ∷ entries_from slots (index - 1) slot.older

  pub is_there : (index number : ℕ) → IsLinked slots index number → 0 < index → number < length slots
  is_there zero number linked some = absurd (omega arith)
  is_there (suc n) number linked some = linked.0

  -- as it is read
  pub step : (index number at : ℕ) (slot : Slot) → at ≡ number → IsLinked slots index number → 0 < index → Step index number (get_or slots at slot)
  step zero number at slot here linked some = absurd (omega arith)
  step (suc n) number at slot here linked some =
      let one : suc n - 1 ≡ n = omega arith in
      let read = slot_read number at slot here linked.0 in
      subst (Step (suc n) number) (sym read) (record {
        within = linked.0;
        linked = subst (λ k. IsLinked slots k (slot_at slots number).older) (sym one) linked.1;
        entries = ap (λ k. (slot_at slots number).entry ∷ entries_from slots k (slot_at slots number).older) (sym one);
      })

  -- a patch's entry is looked for in the rest
  module _ (patch : ℕ) (index number at : ℕ) (slot : Slot) (here : at ≡ number) (left : IsLinked slots index number) (some : 0 < index) where
    pub its_place : ((get_or slots at slot).entry.patch == patch) ≡ true
        → Some (record { index = index - 1; func = (get_or slots at slot).entry.func }) ≡ place_of patch (entries_from slots index number)
    its_place own =
        let s = step index number at slot here left some in
        sym (ap (place_of patch) s.entries ∙ cond-true _ _ _ own
        ∙ ap (λ n. Some (record { index = n; func = (get_or slots at slot).entry.func })) (length_entries (index - 1) (get_or slots at slot).older))

    pub in_rest : (tested : Slot) → ((get_or slots at tested).entry.patch == patch) ≡ false
        → place_of patch (entries_from slots (index - 1) (get_or slots at slot).older) ≡ place_of patch (entries_from slots index number)
    in_rest tested other =
        let s = step index number at slot here left some in
        let same = slot_read number at slot here s.within ∙ sym (slot_read number at tested here s.within) in
        sym (ap (place_of patch) s.entries ∙ cond-false _ _ _ (ap (λ (t : Slot). t.entry.patch == patch) same ∙ other))

    -- the same where no other is read of it
    pub in_others : ((get_or slots at slot).entry.patch == patch) ≡ false
        → place_of patch (entries_from slots (index - 1) (slot_at slots number).older) ≡ place_of patch (entries_from slots index number)
    in_others other =
        let s = step index number at slot here left some in
        ap (λ (t : Slot). place_of patch (entries_from slots (index - 1) t.older)) (sym (slot_read number at slot here s.within)) ∙ in_rest slot other

  -- one slot at least is linked
  pub one_linked : (index number : ℕ) → IsLinked slots index number → 0 < index → IsLinked slots (suc (index - 1)) number
  one_linked zero number linked some = absurd (omega arith)
  one_linked (suc n) number linked some = let one : n ≡ suc n - 1 = omega arith in subst (λ k. IsLinked slots (suc k) number) one linked

  -- a slot with the entry of another patch is passed
  pub record Passed (patch index number : ℕ) (slot : Slot) : Type 0 where
    pub linked : IsLinked slots (index - 1) slot.older
    pub has : has_entry patch (entries_from slots (index - 1) slot.older) ≡ has_entry patch (entries_from slots index number)
    pub older : slot.older ≡ (slot_at slots number).older

  pub passed : (patch index number at : ℕ) (slot : Slot) → at ≡ number → IsLinked slots index number → 0 < index → slot ≡ get_or slots at slot
      → (slot.entry.patch == patch) ≡ false → Passed patch index number slot
  passed patch index number at slot here linked some is other =
      let s = subst (Step index number) (sym is) (step index number at slot here linked some) in
      record {
        linked = s.linked;
        has = sym (ap (has_entry patch) s.entries ∙ ap (λ b. b || has_entry patch (entries_from slots (index - 1) slot.older)) other);
        older = ap (λ (t : Slot). t.older) (is ∙ slot_read number at slot here s.within);
      }
