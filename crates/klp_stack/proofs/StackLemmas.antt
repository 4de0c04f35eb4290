-- The entry of a patch on a stack, by its place.
use Rattle.std.proofs.Common.{◌≡◌, ◌≢◌, ℕ, suc, ◌+◌, ◌-◌, ◌<◌, ◌≤◌, Bool, true, false, not, ◌&&◌, ltb, leb, List, [], ◌∷◌, ◌++◌, length, take, drop, refl, sym, ap, subst, ◌∙◌, arith, length-append, Option, Some, None}
use Rattle.std.specs.Bool.{◌==◌}
use Rattle.std.specs.Prelude.{if◌then◌else◌, option_map, is_some, slice_get}
use Rattle.std.specs.Option.{option_to_list}
use Rattle.std.specs.List.{find, insert, remove}
use Rattle.std.proofs.lemmas.Bool.{eqb-true, eq-eqb, ne_eqb, lt-ltb, le-leb, leb-true, ltb-true, ltb-false, not-true, not-false, not_from_false, and_parts, and_from, or_from, cond-true, cond-false}
use Rattle.std.proofs.lemmas.List.{take_at, take-append-drop}
use Rattle.std.proofs.lemmas.List.Folds.{list_any-append}
use Rattle.klp_types.specs.declared.limits.TheConstants.{MAX_PATCHES}
use Rattle.klp_types.specs.declared.record.Place.{Place}
use Rattle.klp_types.specs.declared.version.Entry.{Entry}
use Rattle.klp_types.specs.declared.version.Transition.{Transition}
use Rattle.klp_types.specs.Entries.{is_empty}
use Rattle.klp_types.specs.Pick.{newest_version}
use Rattle.klp_model.specs.Blocked.{held_version, blocked_among}
use Rattle.klp_stack.specs.Stack.{has_entry, entries_of_others, place_of, IsStack}
use Rattle.klp_stack.specs.Undo.{may_be_at, put_at, put_entry}
use Rattle.klp_stack.proofs.EntryLemmas.{well_formed, no_place, all_others, none_blocked, put_between, at_its_place, its_others, its_version}

abbrev is_own : ℕ → Entry → Bool
is_own patch entry = entry.patch == patch

-- an entry with those above it and those below it
pub record Found (patch : ℕ) (entries : List Entry) (place : Place) : Type 0 where
  pub newer : List Entry
  pub older : List Entry
  pub entry : Entry
  pub is : entries ≡ newer ++ entry ∷ older
  pub count : length older ≡ place.index
  pub func : entry.func ≡ place.func
  pub own : (entry.patch == patch) ≡ true
  pub none_newer : has_entry patch newer ≡ false

pub found : (patch : ℕ) (entries : List Entry) (place : Place) → place_of patch entries ≡ Some place → Found patch entries place
found patch [] place is = let no : ⊥ = cc in absurd no
found patch (entry ∷ older) place is =
    elim (entry.patch == patch) as (λ b. (entry.patch == patch) ≡ b → (if b then Some (record { index = length older; func = entry.func }) else place_of patch older) ≡ Some place
    → Found patch (entry ∷ older) place) [
      | true ↦ λ own here.
          let at : Place = record { index = length older; func = entry.func } in
          let same : at ≡ place = cc in
          record { newer = []; older = older; entry = entry; is = refl; count = ap (λ (p : Place). p.index) same; func = ap (λ (p : Place). p.func) same; own = own; none_newer = refl }
      | false ↦ λ other there.
          let rest = found patch older place there in
          record {
            newer = entry ∷ rest.newer;
            older = rest.older;
            entry = rest.entry;
            is = ap (λ es. entry ∷ es) rest.is;
            count = rest.count;
            func = rest.func;
            own = rest.own;
            none_newer = or_from _ _ other rest.none_newer;
          }
    ] refl is

pub not_found : (patch : ℕ) (entries : List Entry) → place_of patch entries ≡ None → has_entry patch entries ≡ false
not_found patch [] none = refl
not_found patch (entry ∷ older) none =
    elim (entry.patch == patch) as (λ b. (entry.patch == patch) ≡ b → (if b then Some (record { index = length older; func = entry.func }) else place_of patch older) ≡ None
    → has_entry patch (entry ∷ older) ≡ false) [
      | true ↦ λ own here. let no : ⊥ = cc in absurd no
      | false ↦ λ other there. or_from _ _ other (not_found patch older there)
    ] refl none

-- whether it is there
pub has_place : (patch : ℕ) (entries : List Entry) (place : Option Place) → place ≡ place_of patch entries → is_some place ≡ has_entry patch entries
has_place patch entries None none = sym (not_found patch entries (sym none))
has_place patch entries (Some place) there =
    elim (has_entry patch entries) as (λ b. has_entry patch entries ≡ b → true ≡ b) [
      | true ↦ λ is. refl
      | false ↦ λ none. let other : place_of patch entries ≡ None = no_place patch entries none in let no : ⊥ = cc in absurd no
    ] refl

-- the entry itself
pub own_entry : (patch : ℕ) (entries : List Entry) → find (is_own patch) entries ≡ option_map (λ (p : Place). record { patch = patch; func = p.func }) (place_of patch entries)
own_entry patch [] = refl
own_entry patch (entry ∷ older) =
    elim (entry.patch == patch) as (λ b. (entry.patch == patch) ≡ b → (if b then Some entry else find (is_own patch) older)
    ≡ option_map (λ (p : Place). record { patch = patch; func = p.func }) (if b then Some (record { index = length older; func = entry.func }) else place_of patch older)) [
      | true ↦ λ own. ap (λ n. Some (record { patch = n; func = entry.func })) (eqb-true entry.patch patch own)
      | false ↦ λ other. own_entry patch older
    ] refl

-- what holds a sleeper back
module _ (site : ℕ) (move : Transition) (entries : List Entry) where
  pub none_held : place_of move.patch entries ≡ None → blocked_among site move entries ≡ []
  none_held none = none_blocked site move entries (not_found move.patch entries none)

  module _ (place : Place) (there : place_of move.patch entries ≡ Some place) where
    abbrev at : Found move.patch entries place
    at = found move.patch entries place there

    is_held : blocked_among site move entries ≡ held_version site move.target at.entry at.older ∷ []
    is_held = ap (blocked_among site move) at.is ∙ its_version at.entry at.older site move at.own at.newer at.none_newer

    pub own_held : not move.target ≡ true → newest_version site (record { patch = move.patch; func = place.func } ∷ []) ∷ [] ≡ blocked_among site move entries
    own_held away =
        let is : at.entry ≡ record { patch = move.patch; func = place.func } =
        ap (λ n. record { patch = n; func = at.entry.func }) (eqb-true at.entry.patch move.patch at.own) ∙ ap (λ f. record { patch = move.patch; func = f }) at.func
        in
        ap (λ (e : Entry). newest_version site (e ∷ []) ∷ []) (sym is)
        ∙ ap (λ b. held_version site b at.entry at.older ∷ []) (sym (not-true move.target away)) ∙ sym is_held

    next : (older : List Entry) → newest_version site (option_to_list (slice_get older 0)) ≡ newest_version site older
    next [] = refl
    next (entry ∷ older) = refl

    below : (newer older : List Entry) (entry : Entry) → slice_get (newer ++ entry ∷ older) (length newer + 1) ≡ slice_get older 0
    below [] [] entry = refl
    below [] (second ∷ older) entry = refl
    below (first ∷ newer) older entry = let more : length (first ∷ newer) + 1 ≡ suc (length newer + 1) = omega arith in ap (slice_get (first ∷ newer ++ entry ∷ older)) more ∙ below newer older entry

    pub within : place.index < length entries
    within = let long = ap length at.is ∙ length-append at.newer (at.entry ∷ at.older) in omega (arith, long, at.count)

    pub older_held : not move.target ≡ false → newest_version site (option_to_list (slice_get entries (length entries - place.index))) ∷ [] ≡ blocked_among site move entries
    older_held towards =
        let long = ap length at.is ∙ length-append at.newer (at.entry ∷ at.older) in
        let count : length entries - place.index ≡ length at.newer + 1 = omega (arith, long, at.count) in
        ap (λ n. newest_version site (option_to_list (slice_get entries n)) ∷ []) count
        ∙ ap (λ es. newest_version site (option_to_list (slice_get es (length at.newer + 1))) ∷ []) at.is
        ∙ ap (λ o. newest_version site (option_to_list o) ∷ []) (below at.newer at.older at.entry)
        ∙ ap (λ v. v ∷ []) (next at.older)
        ∙ ap (λ b. held_version site b at.entry at.older ∷ []) (sym (not-false move.target towards)) ∙ sym is_held

-- an entry gets its place
put_there : (patch i : ℕ) (func : Option ℕ) (entries : List Entry) → patch < MAX_PATCHES → has_entry patch entries ≡ false → i ≤ length entries
    → put_entry patch (Some (record { index = i; func = func })) entries ≡ put_at i (record { patch = patch; func = func }) entries
put_there patch i func entries number none within =
    cond-true _ _ _ (and_from _ _ (and_from _ _ (lt-ltb patch MAX_PATCHES number) (not_from_false _ none)) (le-leb i (length entries) within))

put_between_at : (i : ℕ) (entry : Entry) (newer older : List Entry) → length older ≡ i → put_at i entry (newer ++ older) ≡ newer ++ entry ∷ older
put_between_at i entry newer older is =
    ap (λ n. insert (newer ++ older) (length (newer ++ older) - n) entry) (sym is) ∙ at_its_place entry older newer

-- the entry of a patch, once it is taken out
pub record Taken (patch : ℕ) (entries rest : List Entry) (was : Option Place) : Type 0 where
  pub stack : IsStack rest
  pub others : rest ≡ entries_of_others patch entries
  pub fewer : length rest ≡ length entries - 1
  pub undo : put_entry patch was (entries_of_others patch entries) ≡ entries

removed_between : (newer older : List Entry) (entry : Entry) (n : ℕ) → n ≡ length newer → remove (newer ++ entry ∷ older) n ≡ newer ++ older
removed_between newer older entry n at =
    ap (λ xs. xs ++ drop (suc n) (newer ++ entry ∷ older)) (take_at newer (entry ∷ older) n (sym at))
    ∙ ap (λ xs. newer ++ xs) (ap (λ m. drop (suc m) (newer ++ entry ∷ older)) at ∙ behind newer)
  where
    behind : (newer : List Entry) → drop (suc (length newer)) (newer ++ entry ∷ older) ≡ older
    behind [] = refl
    behind (first ∷ newer) = behind newer

pub taken : (patch : ℕ) (entries rest : List Entry) (place : Place) → IsStack entries → place_of patch entries ≡ Some place
    → rest ≡ remove entries (length entries - 1 - place.index) → Taken patch entries rest (Some place)
taken patch entries rest place stack is left =
    let at = found patch entries place is in
    let there = well_formed at.entry at.older at.newer (subst IsStack at.is stack) in
    let same : at.entry.patch ≡ patch = eqb-true at.entry.patch patch at.own in
    let none_older = subst (λ p. has_entry p at.older ≡ false) same there.none_older in
    let others : entries_of_others patch entries ≡ at.newer ++ at.older = ap (entries_of_others patch) at.is ∙ its_others at.entry at.older patch at.own at.newer at.none_newer none_older in
    let long = ap length at.is ∙ length-append at.newer (at.entry ∷ at.older) in
    let count : length entries - 1 - place.index ≡ length at.newer = omega (arith, long, at.count) in
    let parts : rest ≡ at.newer ++ at.older =
    left ∙ ap (λ es. remove es (length entries - 1 - place.index)) at.is ∙ removed_between at.newer at.older at.entry (length entries - 1 - place.index) count
    in
    let none_left : has_entry patch (at.newer ++ at.older) ≡ false = list_any-append (is_own patch) at.newer at.older ∙ or_from _ _ at.none_newer none_older in
    record {
      stack = subst IsStack (sym parts) there.rest;
      others = parts ∙ sym others;
      fewer = omega (arith, ap length parts, length-append at.newer at.older, long);
      undo =
          ap (put_entry patch (Some place)) others
          ∙ put_there patch place.index place.func (at.newer ++ at.older) (subst (λ p. p < MAX_PATCHES) same there.number) none_left
          (omega (arith, length-append at.newer at.older, at.count))
          ∙ put_between_at place.index (record { patch = patch; func = place.func }) at.newer at.older at.count
          ∙ ap (λ p. at.newer ++ record { patch = p; func = place.func } ∷ at.older) (sym same)
          ∙ ap (λ f. at.newer ++ record { patch = at.entry.patch; func = f } ∷ at.older) (sym at.func)
          ∙ sym at.is;
    }

pub not_taken : (patch : ℕ) (entries : List Entry) → place_of patch entries ≡ None → entries_of_others patch entries ≡ entries
not_taken patch entries none = all_others patch entries (not_found patch entries none)

-- what an entry is put back into
may_parts : (a b c : Bool) → (a && not b && c) ≡ true → (a ≡ true) × (b ≡ false) × (c ≡ true)
may_parts a b c may =
    let last = and_parts (a && not b) c may in
    let first = and_parts a (not b) last.0 in
    (first.0, not-true b first.1, last.1)

-- an entry that may get a place gets it
pub record PutIn (now : List Entry) (i patch : ℕ) (func : Option ℕ) : Type 0 where
  pub within : i ≤ length now
  pub is : put_at i (record { patch = patch; func = func }) now ≡ put_entry patch (Some (record { index = i; func = func })) now
  pub stack : IsStack (put_at i (record { patch = patch; func = func }) now)

pub put_in : (now : List Entry) (i patch : ℕ) (func : Option ℕ) → IsStack now → may_be_at patch i now ≡ true → PutIn now i patch func
put_in now i patch func stack may =
    let e : Entry = record { patch = patch; func = func } in
    let parts = may_parts (ltb patch MAX_PATCHES) (has_entry patch now) (leb i (length now)) may in
    let number : patch < MAX_PATCHES = ltb-true _ _ parts.0 in
    let within : i ≤ length now = leb-true _ _ parts.2 in
    let newer = take (length now - i) now in
    let older = drop (length now - i) now in
    let at : newer ++ older ≡ now = take-append-drop (length now - i) now in
    let none : has_entry patch (newer ++ older) ≡ false = subst (λ es. has_entry patch es ≡ false) (sym at) parts.1 in
    record {
      within = within;
      is = sym (put_there patch i func now number parts.1 within);
      stack = put_between e older newer number none (subst IsStack (sym at) stack);
    }

-- one that may not changes nothing
pub not_put : (now : List Entry) (patch : ℕ) (place : Place) → may_be_at patch place.index now ≡ false → put_entry patch (Some place) now ≡ now
not_put now patch place may = cond-false _ _ _ may

pub index_within : (patch : ℕ) (entries : List Entry) (place : Place) → place_of patch entries ≡ Some place → place.index < length entries
index_within patch entries place there =
    let at = found patch entries place there in
    let long = ap length at.is ∙ length-append at.newer (at.entry ∷ at.older) in
    omega (arith, long, at.count)

-- whether there are entries
pub empty_is : (entries : List Entry) (n : ℕ) → n ≡ length entries → (n == 0) ≡ is_empty entries
empty_is [] n none = eq-eqb n 0 none
empty_is (entry ∷ older) n more = ne_eqb n 0 (λ none. let no : ⊥ = omega (arith, more, none) in no)

pub put_some : (newer older : List Entry) (entry : Entry) → is_empty (newer ++ entry ∷ older) ≡ false
put_some [] older entry = refl
put_some (first ∷ newer) older entry = refl

-- an entry that gets its place is the only one where there was none
pub first_put : (entries : List Entry) (i : ℕ) (entry : Entry) → is_empty entries ≡ (is_empty entries && not (is_empty (put_at i entry entries)))
first_put entries i entry = by (is_empty entries) (is_empty (put_at i entry entries)) (put_some (take (length entries - i) entries) (drop (length entries - i) entries) entry)
  where
    by : (was now : Bool) → now ≡ false → was ≡ (was && not now)
    by true now some = ap not (sym some)
    by false now some = refl

-- an entry may stand on top, or below another, where the patch has none
pub may_on_top : (patch index n : ℕ) (entries : List Entry) → patch < MAX_PATCHES → index ≡ n → n ≡ length entries → has_entry patch entries ≡ false → true ≡ may_be_at patch index entries
may_on_top patch index n entries number top count none =
    sym (and_from _ _ (and_from _ _ (lt-ltb patch MAX_PATCHES number) (not_from_false _ none)) (le-leb index (length entries) (omega (arith, top, count))))

pub may_below : (patch index n : ℕ) (entries : List Entry) → patch < MAX_PATCHES → index ≢ n → n ≡ length entries
    → (not (has_entry patch entries) && ltb index n) ≡ may_be_at patch index entries
may_below patch index n entries number below count =
    ap (λ b. not (has_entry patch entries) && b) (lower (length entries) count)
    ∙ ap (λ b. b && not (has_entry patch entries) && leb index (length entries)) (sym (lt-ltb patch MAX_PATCHES number))
  where
    lower : (long : ℕ) → n ≡ long → ltb index n ≡ leb index long
    lower long same = elim (ltb index n) as (λ b. ltb index n ≡ b → b ≡ leb index long) [
      | true ↦ λ less. let low = ltb-true index n less in sym (le-leb index long (omega (arith, low, same)))
      | false ↦ λ not_less. elim (leb index long) as (λ b. leb index long ≡ b → false ≡ b) [
        | true ↦ λ le. let high = ltb-false index n not_less in let low = leb-true index long le in absurd (below (omega (arith, high, low, same)))
        | false ↦ λ not_le. refl
      ] refl
    ] refl

pub only_others : (patch : ℕ) (entries : List Entry) (n : ℕ) (has : Bool) → n ≡ length entries → 0 < n → has ≡ has_entry patch entries
    → not has ≡ (not (is_empty entries) && not (has_entry patch entries))
only_others patch [] n has count some is = absurd (omega (arith, count, some))
only_others patch (entry ∷ older) n has count some is = ap not is
