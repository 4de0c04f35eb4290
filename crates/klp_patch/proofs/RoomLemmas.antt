-- There is room for each entry of a change, where there is room for all of them.
use Rattle.std.proofs.Common.{◌≡◌, ℕ, zero, suc, ◌+◌, ◌<◌, ◌≤◌, Bool, true, false, not, ◌&&◌, ◌||◌, cond, List, [], ◌∷◌, ◌++◌, length, refl, sym, ap, subst, ◌∙◌, arith, Option, Some, None, ltb, length-append}
use Rattle.std.proofs.lemmas.Bool.{eqb-true, eq-eqb, le-ltb}
use Rattle.std.proofs.lemmas.List.Sums.{sum_by-append}
use Rattle.klp_types.specs.Setting.{Function, function_for}
use Rattle.klp_types.specs.Entries.{entry_of, is_empty}
use Rattle.klp_catalog.specs.Catalog.{Catalog}
use Rattle.klp_catalog.specs.States.{is_cumulative}
use Rattle.klp_stack.specs.Stack.{entries_at, has_entry}
use Rattle.klp_stack.specs.Spare.{held, spare_in}
use Rattle.klp_sites.specs.Table.{SiteTable}
use Rattle.klp_patch.specs.Covered.{is_covered, functions_in}
use Rattle.klp_patch.specs.Changes.{AreMade, with_entry, with_nop}
use Rattle.klp_patch.specs.Room.{entry_count, HasRoom}
use Rattle.klp_patch.proofs.SiteLemmas.{Entries, nop_not_on_own}
use Rattle.klp_patch.proofs.FunctionLemmas.{is_number, is_below}
use Rattle.klp_patch.proofs.MadeLemmas.{same_covered}

-- sites that have no more entries have no more together
pub count-le : (few many : ℕ → Entries) → ((site : ℕ) → length (few site) ≤ length (many site)) → (sites : ℕ) → entry_count few sites ≤ entry_count many sites
count-le few many le zero = omega arith
count-le few many le (suc sites) = omega (arith, le zero, count-le (λ site. few (suc site)) (λ site. many (suc site)) (λ site. le (suc site)) sites)

held-more : (first : Entries) (stacks : List Entries) → held (first ∷ stacks) ≡ length first + held stacks
held-more first stacks = omega (arith, sum_by-append length (first ∷ []) stacks)

pub held-le : (stacks : List Entries) (many : ℕ → Entries) → ((site : ℕ) → length (entries_at stacks site) ≤ length (many site)) → held stacks ≤ entry_count many (length stacks)
held-le [] many le = omega arith
held-le (first ∷ stacks) many le = omega (arith, held-more first stacks, le zero, held-le stacks (λ site. many (suc site)) (λ site. le (suc site)))

-- and fewer where one of them has fewer
held-lt : (stacks : List Entries) (many : ℕ → Entries) → ((site : ℕ) → length (entries_at stacks site) ≤ length (many site)) → (site : ℕ) → site < length stacks
    → length (entries_at stacks site) < length (many site) → held stacks < entry_count many (length stacks)
held-lt [] many le site there fewer = absurd (omega arith)
held-lt (first ∷ stacks) many le zero there fewer = omega (arith, held-more first stacks, fewer, held-le stacks (λ site. many (suc site)) (λ site. le (suc site)))
held-lt (first ∷ stacks) many le (suc site) there fewer =
    omega (arith, held-more first stacks, le zero, held-lt stacks (λ site. many (suc site)) (λ site. le (suc site)) site (omega arith) fewer)

-- one more entry finds room
module _ (before now : SiteTable) (covers : ℕ → Bool) (made : ℕ → Entries → Entries) (room : HasRoom before covers made) (same : length now.stacks ≡ length before.stacks) where
  abbrev after : ℕ → Entries
  after site = cond (covers site) (made site (entries_at before.stacks site)) (entries_at before.stacks site)

  pub room_for_one : ((site : ℕ) → length (entries_at now.stacks site) ≤ length (after site)) → (site : ℕ) → site < length now.stacks
      → length (entries_at now.stacks site) < length (after site) → 0 < spare_in now.stacks
  room_for_one le site there fewer =
      let all = held-lt now.stacks after le site there fewer in
      let count = ap (entry_count after) same in
      omega (arith, all, count, room.fits)

-- what else is made has room where it is no more
pub room_for_less : (before now : SiteTable) (covers others : ℕ → Bool) (made change : ℕ → Entries → Entries) → HasRoom before covers made → length now.stacks ≡ length before.stacks
    → ((site : ℕ) → length (cond (others site) (change site (entries_at now.stacks site)) (entries_at now.stacks site))
    ≤ length (cond (covers site) (made site (entries_at before.stacks site)) (entries_at before.stacks site)))
    → HasRoom now others change
room_for_less before now covers others made change room same le =
    let few : ℕ → Entries = λ site. cond (others site) (change site (entries_at now.stacks site)) (entries_at now.stacks site) in
    let many : ℕ → Entries = λ site. cond (covers site) (made site (entries_at before.stacks site)) (entries_at before.stacks site) in
    record { fits = omega (arith, count-le few many le (length now.stacks), ap (entry_count many) same, room.fits) }

-- function by function
module _ (patch : ℕ) (number : Option ℕ) (i : ℕ) (entries : Entries) where
  none_fewer : (covers below : Bool) → length (cond (covers && below) (entry_of patch number false ++ entries) entries) ≤ length (cond covers (entry_of patch number false ++ entries) entries)
  none_fewer false below = omega arith
  none_fewer true true = omega arith
  none_fewer true false = omega (arith, length-append (entry_of patch number false) entries)

pub function_fewer : (covers : Bool) (number : Option ℕ) (i patch : ℕ) (entries : Entries) → (covers && is_number number i) ≡ true
    → length (cond (covers && is_below number i) (entry_of patch number false ++ entries) entries) < length (cond covers (entry_of patch number false ++ entries) entries)
function_fewer false number i patch entries at = cc
function_fewer true None i patch entries at = cc
function_fewer true (Some k) i patch entries at =
    let here : k ≡ i = eqb-true k i at in
    rw (le-ltb k i (omega arith)) (omega arith)

pub room_for_function : (before now : SiteTable) (covers : ℕ → Bool) (number : ℕ → Option ℕ) (patch i site : ℕ) → HasRoom before covers (λ site entries. entry_of patch (number site) false ++ entries)
    → length now.stacks ≡ length before.stacks → AreMade before now (λ site. covers site && is_below (number site) i) (λ site entries. entry_of patch (number site) false ++ entries)
    → site < length now.stacks → (covers site && is_number (number site) i) ≡ true → 0 < spare_in now.stacks
room_for_function before now covers number patch i site room same so_far there own =
    room_for_one before now covers (λ site entries. entry_of patch (number site) false ++ entries) room same
    (λ s. subst (λ es. length es ≤ length (cond (covers s) (entry_of patch (number s) false ++ entries_at before.stacks s) (entries_at before.stacks s))) (sym (so_far.entries s))
    (none_fewer patch (number s) i (entries_at before.stacks s) (covers s) (is_below (number s) i)))
    site there
    (subst (λ es. length es < length (cond (covers site) (entry_of patch (number site) false ++ entries_at before.stacks site) (entries_at before.stacks site))) (sym (so_far.entries site))
    (function_fewer (covers site) (number site) i patch (entries_at before.stacks site) own))

-- site by site
no_less : (patch : ℕ) (entries : Entries) → length entries ≤ length (with_nop patch entries)
no_less patch [] = omega arith
no_less patch (entry ∷ older) = elim (has_entry patch (entry ∷ older)) as
    (λ b. length (entry ∷ older) ≤ length (cond b (entry ∷ older) (record { patch = patch; func = None } ∷ entry ∷ older))) [ true ↦ omega arith | false ↦ omega arith ]

nop_none_fewer : (patch : ℕ) (entries : Entries) (covers below : Bool) → length (cond (covers && below) (with_nop patch entries) entries) ≤ length (cond covers (with_nop patch entries) entries)
nop_none_fewer patch entries false below = omega arith
nop_none_fewer patch entries true true = omega arith
nop_none_fewer patch entries true false = no_less patch entries

pub room_for_nop : (before now : SiteTable) (covers : ℕ → Bool) (patch i : ℕ) → HasRoom before covers (λ site entries. with_nop patch entries)
    → length now.stacks ≡ length before.stacks → AreMade before now (λ site. covers site && ltb site i) (λ site entries. with_nop patch entries)
    → i < length now.stacks → covers i ≡ true → length (entries_at now.stacks i) < length (with_nop patch (entries_at now.stacks i)) → 0 < spare_in now.stacks
room_for_nop before now covers patch i room same so_far there covered more =
    let here : entries_at now.stacks i ≡ entries_at before.stacks i =
    so_far.entries i ∙ ap (λ b. cond (covers i && b) (with_nop patch (entries_at before.stacks i)) (entries_at before.stacks i)) (le-ltb i i (omega arith))
    ∙ ap (λ b. cond (b && false) (with_nop patch (entries_at before.stacks i)) (entries_at before.stacks i)) covered
    in
    room_for_one before now covers (λ site entries. with_nop patch entries) room same
    (λ s. subst (λ es. length es ≤ length (cond (covers s) (with_nop patch (entries_at before.stacks s)) (entries_at before.stacks s))) (sym (so_far.entries s))
    (nop_none_fewer patch (entries_at before.stacks s) (covers s) (ltb s i)))
    i there
    (subst (λ b. length (entries_at now.stacks i) < length (cond b (with_nop patch (entries_at before.stacks i)) (entries_at before.stacks i))) (sym covered)
    (subst (λ es. length (entries_at now.stacks i) < length (with_nop patch es)) here more))

-- the functions of a patch alone
functions_fewer : (patch : ℕ) (number : Option ℕ) (nop covers : Bool) (entries : Entries) → length (cond covers (entry_of patch number false ++ entries) entries) ≤ length (cond covers (entry_of patch number nop ++ entries) entries)
functions_fewer patch number nop false entries = omega arith
functions_fewer patch (Some k) nop true entries = omega arith
functions_fewer patch None true true entries = omega arith
functions_fewer patch None false true entries = omega arith

pub room_for_functions : (catalog : Catalog) (patch : ℕ) (before : SiteTable) (only : Option ℕ) (listed : List Function) → listed ≡ functions_in catalog patch → HasRoom before (is_covered before only) (with_entry catalog patch)
    → HasRoom before (is_covered before only) (λ site entries. entry_of patch (function_for listed site) false ++ entries)
room_for_functions catalog patch before only listed same room =
    room_for_less before before (is_covered before only) (is_covered before only) (with_entry catalog patch) (λ site entries. entry_of patch (function_for listed site) false ++ entries) room refl
    (λ site. subst (λ fs. length (cond (is_covered before only site) (entry_of patch (function_for fs site) false ++ entries_at before.stacks site) (entries_at before.stacks site))
    ≤ length (cond (is_covered before only site) (with_entry catalog patch site (entries_at before.stacks site)) (entries_at before.stacks site))) (sym same)
    (functions_fewer patch (function_for (functions_in catalog patch) site) (is_cumulative catalog patch && not (is_empty (entries_at before.stacks site))) (is_covered before only site) (entries_at before.stacks site)))

-- the nops behind them
nops_fewer : (patch : ℕ) (number : Option ℕ) (covers : Bool) (entries : Entries)
    → length (cond covers (with_nop patch (cond covers (entry_of patch number false ++ entries) entries)) (cond covers (entry_of patch number false ++ entries) entries))
    ≤ length (cond covers (entry_of patch number (not (is_empty entries)) ++ entries) entries)
nops_fewer patch number false entries = omega arith
nops_fewer patch (Some k) true entries =
    let own : has_entry patch (record { patch = patch; func = Some k } ∷ entries) ≡ true = ap (λ b. b || has_entry patch entries) (eq-eqb patch patch refl) in
    let same = ap length (nop_not_on_own patch (record { patch = patch; func = Some k } ∷ entries) own) in
    omega (arith, same)
nops_fewer patch None true [] = omega arith
nops_fewer patch None true (entry ∷ older) = elim (has_entry patch (entry ∷ older)) as
    (λ b. length (cond b (entry ∷ older) (record { patch = patch; func = None } ∷ entry ∷ older)) ≤ suc (length (entry ∷ older))) [ true ↦ omega arith | false ↦ omega arith ]

pub room_for_nops : (catalog : Catalog) (patch : ℕ) (before now : SiteTable) (only : Option ℕ) (listed : List Function) → listed ≡ functions_in catalog patch → is_cumulative catalog patch ≡ true
    → HasRoom before (is_covered before only) (with_entry catalog patch) → length now.stacks ≡ length before.stacks
    → AreMade before now (is_covered before only) (λ site entries. entry_of patch (function_for listed site) false ++ entries) → HasRoom now (is_covered now only) (λ site entries. with_nop patch entries)
room_for_nops catalog patch before now only listed same cumulative room sites made =
    room_for_less before now (is_covered before only) (is_covered now only) (with_entry catalog patch) (λ site entries. with_nop patch entries) room sites
    (λ site.
    let covers = is_covered before only site in
    let es = entries_at before.stacks site in
    let number = function_for (functions_in catalog patch) site in
    let here : entries_at now.stacks site ≡ cond covers (entry_of patch number false ++ es) es =
    made.entries site ∙ ap (λ (fs : List Function). cond covers (entry_of patch (function_for fs site) false ++ es) es) same
    in
    let few : cond (is_covered now only site) (with_nop patch (entries_at now.stacks site)) (entries_at now.stacks site)
    ≡ cond covers (with_nop patch (cond covers (entry_of patch number false ++ es) es)) (cond covers (entry_of patch number false ++ es) es) =
    ap (λ b. cond b (with_nop patch (entries_at now.stacks site)) (entries_at now.stacks site)) (same_covered before now _ _ only made site)
    ∙ ap (λ xs. cond covers (with_nop patch xs) xs) here
    in
    let many : cond covers (with_entry catalog patch site es) es ≡ cond covers (entry_of patch number (not (is_empty es)) ++ es) es =
    ap (λ b. cond covers (entry_of patch number (b && not (is_empty es)) ++ es) es) cumulative
    in
    subst (λ xs. length xs ≤ length (cond covers (with_entry catalog patch site es) es)) (sym few)
    (subst (λ xs. length (cond covers (with_nop patch (cond covers (entry_of patch number false ++ es) es)) (cond covers (entry_of patch number false ++ es) es)) ≤ length xs) (sym many)
    (nops_fewer patch number covers es)))
