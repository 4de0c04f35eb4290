-- One entry of a stack, with those above it and those below it.
use Rattle.std.proofs.Common.{◌≡◌, ℕ, suc, ◌-◌, ◌<◌, ◌≤◌, true, false, ◌||◌, eqb, List, [], ◌∷◌, ◌++◌, length, drop, map, refl, ap, subst, ◌∙◌, arith, length-append, Some, None}
use Rattle.std.specs.Bool.{◌==◌}
use Rattle.std.specs.List.{list_any, find, insert, IsDistinct, AllByRecursion}
use Rattle.std.proofs.lemmas.Bool.{eqb-true, or_parts, or_from, not_from_true, not_from_false, cond-true, cond-false}
use Rattle.std.specs.Cmp.{nat_eq_equiv}
use Rattle.std.proofs.lemmas.List.{take_at, drop_at}
use Rattle.std.proofs.lemmas.Map.Steps.{length-le_from_distinct_below}
use Rattle.klp_types.specs.declared.limits.TheConstants.{MAX_PATCHES}
use Rattle.klp_types.specs.declared.version.Entry.{Entry}
use Rattle.klp_types.specs.declared.version.Transition.{Transition}
use Rattle.klp_model.specs.Blocked.{held_version, blocked_among}
use Rattle.klp_stack.specs.Stack.{has_entry, entries_of_others, place_of, IsStack}

differ_back : (a b : ℕ) → (a == b) ≡ false → (b == a) ≡ false
differ_back a b apart = nat_eq_equiv.symm b a ∙ apart

-- a patch without an entry
module _ (patch : ℕ) where
  pub no_place : (entries : List Entry) → has_entry patch entries ≡ false → place_of patch entries ≡ None
  no_place [] none = refl
  no_place (entry ∷ older) none =
      let parts = or_parts (entry.patch == patch) (has_entry patch older) none in
      cond-false _ _ _ parts.0 ∙ no_place older parts.1

  pub all_others : (entries : List Entry) → has_entry patch entries ≡ false → entries_of_others patch entries ≡ entries
  all_others [] none = refl
  all_others (entry ∷ older) none =
      let parts = or_parts (entry.patch == patch) (has_entry patch older) none in
      cond-true _ _ _ (not_from_false _ parts.0) ∙ ap (λ rest. entry ∷ rest) (all_others older parts.1)

pub no_entry : (patch : ℕ) (entries : List Entry) → has_entry patch entries ≡ false → find (λ (e : Entry). e.patch == patch) entries ≡ None
no_entry patch [] none = refl
no_entry patch (entry ∷ older) none =
    let parts = or_parts (entry.patch == patch) (has_entry patch older) none in
    cond-false _ _ _ parts.0 ∙ no_entry patch older parts.1

pub none_blocked : (site : ℕ) (move : Transition) (entries : List Entry) → has_entry move.patch entries ≡ false → blocked_among site move entries ≡ []
none_blocked site move [] none = refl
none_blocked site move (entry ∷ older) none =
    let parts = or_parts (entry.patch == move.patch) (has_entry move.patch older) none in
    cond-false _ _ _ parts.0 ∙ none_blocked site move older parts.1

-- an entry that stands between
module _ (entry : Entry) (older : List Entry) where
  -- what a stack says of it
  pub record IsWellFormed (newer : List Entry) : Type 0 where
    pub number : entry.patch < MAX_PATCHES
    pub none_newer : has_entry entry.patch newer ≡ false
    pub none_older : has_entry entry.patch older ≡ false
    pub rest : IsStack (newer ++ older)

  none_among : (patch : ℕ) (newer : List Entry) → has_entry patch (newer ++ entry ∷ older) ≡ false → ((entry.patch == patch) ≡ false) × (has_entry patch (newer ++ older) ≡ false)
  none_among patch [] none = or_parts (entry.patch == patch) (has_entry patch older) none
  none_among patch (first ∷ newer) none =
      let parts = or_parts (first.patch == patch) (has_entry patch (newer ++ entry ∷ older)) none in
      let others = none_among patch newer parts.1 in
      (others.0, or_from _ _ parts.0 others.1)

  pub well_formed : (newer : List Entry) → IsStack (newer ++ entry ∷ older) → IsWellFormed newer
  well_formed [] stack = record { number = stack.0; none_newer = refl; none_older = stack.1; rest = stack.2 }
  well_formed (first ∷ newer) stack =
      let others = none_among first.patch newer stack.1 in
      let there = well_formed newer stack.2 in
      record {
        number = there.number;
        none_newer = or_from _ _ (differ_back entry.patch first.patch others.0) there.none_newer;
        none_older = there.none_older;
        rest = (stack.0, others.1, there.rest);
      }

  also_none : (patch : ℕ) (newer : List Entry) → (entry.patch == patch) ≡ false → has_entry patch (newer ++ older) ≡ false → has_entry patch (newer ++ entry ∷ older) ≡ false
  also_none patch [] apart none = or_from _ _ apart none
  also_none patch (first ∷ newer) apart none =
      let parts = or_parts (first.patch == patch) (has_entry patch (newer ++ older)) none in
      or_from _ _ parts.0 (also_none patch newer apart parts.1)

  -- it may be put between the others where it has no other entry
  pub put_between : (newer : List Entry) → entry.patch < MAX_PATCHES → has_entry entry.patch (newer ++ older) ≡ false → IsStack (newer ++ older) → IsStack (newer ++ entry ∷ older)
  put_between [] number none stack = (number, none, stack)
  put_between (first ∷ newer) number none stack =
      let parts = or_parts (first.patch == entry.patch) (has_entry entry.patch (newer ++ older)) none in
      (stack.0, also_none first.patch newer (differ_back first.patch entry.patch parts.0) stack.1, put_between newer number parts.1 stack.2)

  pub at_its_place : (newer : List Entry) → insert (newer ++ older) (length (newer ++ older) - length older) entry ≡ newer ++ entry ∷ older
  at_its_place newer =
      let count : length newer ≡ length (newer ++ older) - length older = omega (arith, length-append newer older) in
      ap (λ xs. xs ++ entry ∷ drop (length (newer ++ older) - length older) (newer ++ older)) (take_at newer older _ count)
      ∙ ap (λ xs. newer ++ entry ∷ xs) (drop_at newer older _ count)

  module _ (patch : ℕ) (own : (entry.patch == patch) ≡ true) where
    pub its_place : (newer : List Entry) → has_entry patch newer ≡ false → place_of patch (newer ++ entry ∷ older) ≡ Some (record { index = length older; func = entry.func })
    its_place [] none = cond-true _ _ _ own
    its_place (first ∷ newer) none =
        let parts = or_parts (first.patch == patch) (has_entry patch newer) none in
        cond-false _ _ _ parts.0 ∙ its_place newer parts.1

    pub its_entry : (newer : List Entry) → has_entry patch newer ≡ false → find (λ (e : Entry). e.patch == patch) (newer ++ entry ∷ older) ≡ Some entry
    its_entry [] none = cond-true _ _ _ own
    its_entry (first ∷ newer) none =
        let parts = or_parts (first.patch == patch) (has_entry patch newer) none in
        cond-false _ _ _ parts.0 ∙ its_entry newer parts.1

    pub its_others : (newer : List Entry) → has_entry patch newer ≡ false → has_entry patch older ≡ false → entries_of_others patch (newer ++ entry ∷ older) ≡ newer ++ older
    its_others [] none none_older =
        cond-false _ _ _ (not_from_true _ own) ∙ all_others patch older none_older
    its_others (first ∷ newer) none none_older =
        let parts = or_parts (first.patch == patch) (has_entry patch newer) none in
        cond-true _ _ _ (not_from_false _ parts.0) ∙ ap (λ rest. first ∷ rest) (its_others newer parts.1 none_older)

  pub its_version : (site : ℕ) (move : Transition) → (entry.patch == move.patch) ≡ true → (newer : List Entry) → has_entry move.patch newer ≡ false
      → blocked_among site move (newer ++ entry ∷ older) ≡ held_version site move.target entry older ∷ []
  its_version site move own [] none = cond-true _ _ _ own
  its_version site move own (first ∷ newer) none =
      let parts = or_parts (first.patch == move.patch) (has_entry move.patch newer) none in
      cond-false _ _ _ parts.0 ∙ its_version site move own newer parts.1

-- A stack has no more entries than there may be patches.
abbrev numbers : List Entry → List ℕ
numbers entries = map (λ (e : Entry). e.patch) entries

all_differ : (patch : ℕ) (entries : List Entry) → has_entry patch entries ≡ false → AllByRecursion (λ other. eqb patch other ≡ false) (numbers entries)
all_differ patch [] none = tt
all_differ patch (entry ∷ older) none =
    let parts = or_parts (entry.patch == patch) (has_entry patch older) none in
    (differ_back entry.patch patch parts.0, all_differ patch older parts.1)

distinct : (entries : List Entry) → IsStack entries → IsDistinct eqb (numbers entries)
unfolding IsDistinct
distinct [] stack = tt
distinct (entry ∷ older) stack = (all_differ entry.patch older stack.1, distinct older stack.2)

below : (entries : List Entry) → IsStack entries → (patch : ℕ) → list_any (eqb patch) (numbers entries) ≡ true → patch < MAX_PATCHES
below [] stack patch e = cc
below (entry ∷ older) stack patch e =
    elim (eqb patch entry.patch) as (λ b. eqb patch entry.patch ≡ b → (b || list_any (eqb patch) (numbers older)) ≡ true → patch < MAX_PATCHES) [
      | true ↦ λ same any. let same_number = eqb-true patch entry.patch same in omega (arith, stack.0)
      | false ↦ λ same any. below older stack.2 patch any
    ] refl e

pub few_entries : (entries : List Entry) → IsStack entries → length entries ≤ MAX_PATCHES
few_entries entries stack =
    let few = length-le_from_distinct_below (numbers entries) MAX_PATCHES (distinct entries stack) (below entries stack) in
    subst (λ n. n ≤ MAX_PATCHES) (count entries) few
  where
    count : (entries : List Entry) → length (numbers entries) ≡ length entries
    count [] = refl
    count (entry ∷ older) = ap suc (count older)
