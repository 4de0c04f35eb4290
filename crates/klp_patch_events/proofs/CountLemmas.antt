-- How many entries all sites have: all patches but one have one on the site of each of their functions at most, and the newest
-- one on each site, where it replaces the others.
use Rattle.std.proofs.Common.{◌≡◌, ℕ, zero, suc, ◌+◌, ◌*◌, ◌≤◌, Bool, true, false, not, ◌&&◌, cond, List, [], ◌∷◌, ◌++◌, length, reverse, Option, Some, None, eqb, refl, sym, ap, subst, ◌∙◌, arith, length-append}
use Rattle.std.specs.Prelude.{option_map, if◌then◌else◌, slice_get}
use Rattle.std.specs.List.{count_by, list_any, AllByRecursion}
use Rattle.std.proofs.lemmas.Bool.{eq-eqb, ne_eqb, eqb-true, eqb-false}
use Rattle.std.proofs.lemmas.Grind.{reverse_onto}
use Rattle.std.proofs.lemmas.List.{length-reverse, length-map}
use Rattle.std.proofs.lemmas.List.Sums.{sum_by-cons, sum_by-append}
use Rattle.klp_types.specs.declared.limits.TheConstants.{MAX_FUNCTIONS, MAX_PATCHES, MAX_SITES}
use Rattle.klp_types.specs.declared.version.Entry.{Entry}
use Rattle.klp_types.specs.declared.version.Transition.{Transition}
use Rattle.klp_types.specs.Image.{Image}
use Rattle.klp_types.specs.Setting.{Setting, Function, functions_of, function_for, replaces, is_at}
use Rattle.klp_types.specs.Entries.{entry_of, entries_from, patches_site, is_empty}
use Rattle.klp_model.specs.Allowed.{AreAbove, AreStacked}
use Rattle.klp_catalog.specs.Catalog.{Catalog, setting_function, patches_of, functions_of_patch, targets_of_patch}
use Rattle.klp_catalog.specs.Limits.{IsWithin, AreWithin}
use Rattle.klp_catalog_text.specs.Plan.{PlanPatch}
use Rattle.klp_catalog_text.specs.PlanParts.{function_count}
use Rattle.klp_catalog.proofs.CatalogLemmas.{in_setting, length-functions}
use Rattle.klp_patch.specs.Room.{entry_count, FindRoom}
use Rattle.klp_patch.proofs.RoomLemmas.{count-le}

-- two of each site together
count-both : (one other both : ℕ → List Entry) → ((site : ℕ) → length (both site) ≡ length (one site) + length (other site)) → (sites : ℕ)
    → entry_count both sites ≡ entry_count one sites + entry_count other sites
count-both one other both are zero = omega arith
count-both one other both are (suc sites) =
    omega (arith, are zero, count-both (λ site. one (suc site)) (λ site. other (suc site)) (λ site. both (suc site)) (λ site. are (suc site)) sites)

count-none : (entries : ℕ → List Entry) → ((site : ℕ) → length (entries site) ≡ 0) → (sites : ℕ) → entry_count entries sites ≡ 0
count-none entries none zero = refl
count-none entries none (suc sites) = omega (arith, none zero, count-none (λ site. entries (suc site)) (λ site. none (suc site)) sites)

count-one : (entries : ℕ → List Entry) → ((site : ℕ) → length (entries site) ≤ 1) → (sites : ℕ) → entry_count entries sites ≤ sites
count-one entries few zero = omega arith
count-one entries few (suc sites) = omega (arith, few zero, count-one (λ site. entries (suc site)) (λ site. few (suc site)) sites)

-- a function is for one site at most
abbrev one_if : Bool → List Entry
one_if here = if here then record { patch = 0; func = None } ∷ [] else []

abbrev one_at : Option ℕ → ℕ → List Entry
one_at own site = one_if (is_at own site)

same_after : (a b : ℕ) → eqb (suc a) (suc b) ≡ eqb a b
same_after a b = elim (eqb a b) as (λ t. eqb a b ≡ t → eqb (suc a) (suc b) ≡ t) [
  | true ↦ λ e. eq-eqb (suc a) (suc b) (ap suc (eqb-true a b e))
  | false ↦ λ e. ne_eqb (suc a) (suc b) (λ is. eqb-false a b e (let same : a ≡ b = omega arith in same))
] refl

one_site : (own : ℕ) (sites : ℕ) → entry_count (one_at (Some own)) sites ≤ 1
one_site own zero = omega arith
one_site zero (suc sites) =
    let none = count-none (λ site. one_at (Some 0) (suc site))
    (λ site. ap (λ b. length (one_if b)) (ne_eqb 0 (suc site) (λ is. absurd (omega arith)))) sites
    in
    omega (arith, none)
one_site (suc own) (suc sites) =
    let first : length (one_at (Some (suc own)) 0) ≡ 0 = ap (λ b. length (one_if b)) (ne_eqb (suc own) 0 (λ is. absurd (omega arith))) in
    let rest = count-le (λ site. one_at (Some (suc own)) (suc site)) (one_at (Some own))
    (λ site. let same = ap (λ b. length (one_if b)) (same_after own site) in omega (arith, same)) sites
    in
    omega (arith, first, rest, one_site own sites)

at_most_one : (own : Option ℕ) (sites : ℕ) → entry_count (one_at own) sites ≤ 1
at_most_one None sites = let none = count-none (one_at None) (λ site. refl) sites in omega (arith, none)
at_most_one (Some own) sites = one_site own sites

-- the functions of a patch are for no more sites than they are
functions_for : (patch : ℕ) (functions : List Function) (sites : ℕ) → entry_count (λ site. entry_of patch (function_for functions site) false) sites ≤ length functions
functions_for patch [] sites = let none = count-none (λ site. []) (λ site. refl) sites in omega (arith, none)
functions_for patch (function ∷ functions) sites =
    let own = one_at function.site in
    let rest : ℕ → List Entry = λ site. entry_of patch (function_for functions site) false in
    let either = count-le (λ site. entry_of patch (function_for (function ∷ functions) site) false) (λ site. own site ++ rest site)
    (λ site. by (is_at function.site site) (function_for functions site)) sites
    in
    let both = count-both own rest (λ site. own site ++ rest site) (λ site. length-append (own site) (rest site)) sites in
    omega (arith, either, both, at_most_one function.site sites, functions_for patch functions sites)
  where
    by : (here : Bool) (found : Option ℕ) → length (entry_of patch (cond here (Some 0) (option_map suc found)) false)
        ≤ length (one_if here ++ entry_of patch found false)
    by true None = omega arith
    by true (Some n) = omega arith
    by false None = omega arith
    by false (Some n) = omega arith

abbrev pub bit : Bool → ℕ
bit b = cond b 1 0

-- how many of these patches, newest first, put nops: those that replace, but for the oldest
abbrev pub wide : Setting → List ℕ → ℕ
wide setting [] = 0
wide setting (patch ∷ older) = cond (replaces setting patch && not (is_empty older)) 1 0 + wide setting older

at_most_entry : (patch : ℕ) (number : Option ℕ) (nop : Bool) → length (entry_of patch number nop) ≤ 1
at_most_entry patch (Some n) nop = omega arith
at_most_entry patch None true = omega arith
at_most_entry patch None false = omega arith

module _ (setting : Setting) (few : (patch : ℕ) → length (functions_of setting patch) ≤ MAX_FUNCTIONS) (sites : ℕ) (few_sites : sites ≤ MAX_SITES) where
  abbrev own : ℕ → List ℕ → ℕ → List Entry
  own patch older site = entry_of patch (function_for (functions_of setting patch) site) (replaces setting patch && list_any (patches_site setting site) older)

  nop_needs_older : (a : Bool) (p : ℕ → Bool) (older : List ℕ) → (a && not (is_empty older)) ≡ false → (a && list_any p older) ≡ false
  nop_needs_older true p [] none = refl
  nop_needs_older true p (x ∷ older) none = cc
  nop_needs_older false p older none = refl

  -- those of one patch
  own_few : (patch : ℕ) (older : List ℕ) → entry_count (own patch older) sites ≤ MAX_FUNCTIONS + 192 * cond (replaces setting patch && not (is_empty older)) 1 0
  own_few patch older =
      elim (replaces setting patch && not (is_empty older)) as
      (λ b. (replaces setting patch && not (is_empty older)) ≡ b → entry_count (own patch older) sites ≤ MAX_FUNCTIONS + 192 * cond b 1 0) [
        | true ↦ λ is.
            let all = count-one (own patch older) (λ site. at_most_entry patch (function_for (functions_of setting patch) site) (replaces setting patch && list_any (patches_site setting site) older)) sites in
            omega (arith, all, few_sites)
        | false ↦ λ is.
            let alone : ℕ → List Entry = λ site. entry_of patch (function_for (functions_of setting patch) site) false in
            let same = count-le (own patch older) alone
            (λ site.
            let equal = ap (λ b. length (entry_of patch (function_for (functions_of setting patch) site) b)) (nop_needs_older (replaces setting patch) (patches_site setting site) older is) in
            omega (arith, equal)) sites
            in
            omega (arith, same, functions_for patch (functions_of setting patch) sites, few patch)
      ] refl

  pub entries_few : (patches : List ℕ) → entry_count (λ site. entries_from setting site patches) sites ≤ MAX_FUNCTIONS * length patches + 192 * wide setting patches
  entries_few [] = let none = count-none (λ site. []) (λ site. refl) sites in omega (arith, none)
  entries_few (patch ∷ older) =
      let both = count-both (own patch older) (λ site. entries_from setting site older) (λ site. entries_from setting site (patch ∷ older))
      (λ site. length-append (own patch older site) (entries_from setting site older)) sites
      in
      let one = own_few patch older in
      omega (arith, both, one, entries_few older)

-- no more than one puts nops
module _ (setting : Setting) (moving : Option Transition) where
  one_above : (patches : List ℕ) → AreAbove setting moving patches → count_by (replaces setting) patches ≤ 1
  one_above [] above = omega arith
  one_above (first ∷ newer) above =
      let more = sum_by-cons (λ p. cond (replaces setting p) 1 0) first newer in
      let at_most : cond (replaces setting first) 1 0 + count_by (replaces setting) newer ≤ 1 = by (replaces setting first) refl (one_above newer above.1) in
      omega (arith, more, at_most)
    where
      by : (t : Bool) → replaces setting first ≡ t → count_by (replaces setting) newer ≤ 1 → cond t 1 0 + count_by (replaces setting) newer ≤ 1
      by true is rest = subst (λ list. 1 + count_by (replaces setting) list ≤ 1) (sym (above.0 is).0) (omega arith)
      by false is rest = omega arith

count-reverse : (p : ℕ → Bool) (xs : List ℕ) → count_by p (reverse xs) ≡ count_by p xs
count-reverse p [] = refl
count-reverse p (x ∷ xs) =
    let turned = ap (count_by p) (reverse_onto xs x []) in
    let both = sum_by-append (λ y. cond (p y) 1 0) (reverse xs) (x ∷ []) in
    let first = sum_by-cons (λ y. cond (p y) 1 0) x xs in
    omega (arith, turned, both, first, count-reverse p xs)

wide_above : (setting : Setting) (oldest : ℕ) (newer : List ℕ) → wide setting (newer ++ oldest ∷ []) ≡ count_by (replaces setting) newer
wide_above setting oldest [] = by (replaces setting oldest)
  where
    by : (b : Bool) → bit (b && false) + 0 ≡ 0
    by true = refl
    by false = refl
wide_above setting oldest (patch ∷ newer) =
    let first = sum_by-cons (λ y. cond (replaces setting y) 1 0) patch newer in
    let here : bit (replaces setting patch && not (is_empty (newer ++ oldest ∷ []))) ≡ bit (replaces setting patch) =
    ap (λ b. bit (replaces setting patch && not b)) (some newer) ∙ by (replaces setting patch)
    in
    omega (arith, first, here, wide_above setting oldest newer)
  where
    some : (xs : List ℕ) → is_empty (xs ++ oldest ∷ []) ≡ false
    some [] = refl
    some (x ∷ xs) = refl

    by : (b : Bool) → bit (b && true) ≡ bit b
    by true = refl
    by false = refl

pub few_wide : (setting : Setting) (moving : Option Transition) (patches : List ℕ) → AreStacked setting moving patches → wide setting (reverse patches) ≤ 1
few_wide setting moving [] stacked = omega arith
few_wide setting moving (oldest ∷ newer) stacked =
    let turned = ap (wide setting) (reverse_onto newer oldest []) in
    omega (arith, turned, wide_above setting oldest (reverse newer), count-reverse (replaces setting) newer, one_above setting moving newer stacked)

-- all entries of all sites find room
pub all_fit : (setting : Setting) (moving : Option Transition) (patches : List ℕ) (sites : ℕ) → ((patch : ℕ) → length (functions_of setting patch) ≤ MAX_FUNCTIONS) → sites ≤ MAX_SITES
    → AreStacked setting moving patches → length patches ≤ MAX_PATCHES → FindRoom (λ site. entries_from setting site (reverse patches)) sites
all_fit setting moving patches sites few few_sites stacked few_patches =
    omega (arith, entries_few setting few sites few_sites (reverse patches), few_wide setting moving patches stacked, length-reverse patches, few_patches)

-- the catalog's patches have few functions
few_in_patch : (patches : List PlanPatch) (p : ℕ) → AllByRecursion IsWithin patches → function_count (targets_of_patch (slice_get patches p)) ≤ MAX_FUNCTIONS
few_in_patch [] p small = omega arith
few_in_patch (patch ∷ patches) zero small = small.0.few_functions
few_in_patch (patch ∷ patches) (suc p) small = few_in_patch patches p small.1

pub few_functions : (image : Image) (catalog : Catalog) → AreWithin catalog.patches → (patch : ℕ) → length (functions_of (record { image = image; patches = patches_of catalog }) patch) ≤ MAX_FUNCTIONS
few_functions image catalog small patch =
    let targets = targets_of_patch (slice_get catalog.patches patch) in
    let listed = ap length (in_setting catalog.names catalog.patches patch) in
    omega (arith, listed, length-map (functions_of_patch catalog.names targets) setting_function, length-functions catalog.names targets, few_in_patch catalog.patches patch small.each_within)

-- those of older patches alone are no more
pub older_fewer : (setting : Setting) (site : ℕ) (newer older : List ℕ) → length (entries_from setting site older) ≤ length (entries_from setting site (newer ++ older))
older_fewer setting site [] older = omega arith
older_fewer setting site (patch ∷ newer) older =
    omega (
      arith,
      length-append (entry_of patch (function_for (functions_of setting patch) site) (replaces setting patch && list_any (patches_site setting site) (newer ++ older))) (entries_from setting site (newer ++ older)),
      older_fewer setting site newer older,
    )
