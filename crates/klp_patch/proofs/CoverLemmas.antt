-- Which sites a change is about, by the object of a site.
use Rattle.std.proofs.Common.{◌≡◌, ℕ, zero, suc, ◌+◌, ◌-◌, ◌<◌, ◌≤◌, true, false, ◌&&◌, List, [], ◌∷◌, ◌++◌, length, drop, refl, sym, ap, ◌∙◌, arith, length-append, Option, Some, None, eqb, ltb, add-one}
use Rattle.std.specs.Prelude.{slice_get, option_map, unwrap_or, cond}
use Rattle.std.specs.Option.{IfSome}
use Rattle.std.proofs.lemmas.Bool.{lt-ltb, le-ltb, ltb-true, ltb-false, eqb-true, and_right}
use Rattle.std.proofs.lemmas.List.{drop_all}
use Rattle.klp_types.specs.Image.{Object, symbols_of, object_of}
use Rattle.klp_types.specs.Setting.{is_at}
use Rattle.klp_modules.specs.Names.{names_of}
use Rattle.klp_catalog.specs.Assembled.{IsInObject}
use Rattle.klp_catalog.proofs.SiteLemmas.{object_of-named}
use Rattle.klp_sites.specs.Table.{SiteTable}
use Rattle.klp_patch.specs.Covered.{is_in_scope, is_object_in_scope, is_covered}

-- a site with an object is a site of the image
behind : (site count later object : ℕ) (own : Option ℕ) → ((k : ℕ) → own ≡ Some k → site - count < later) → count ≤ site → option_map suc own ≡ Some object → site < count + later
behind site count later object None below from is = cc
behind site count later object (Some own) below from is = let there = below own refl in omega arith

pub site_below : (objects : List Object) (object site : ℕ) → object_of objects site ≡ Some object → site < length (symbols_of objects)
site_below [] object site is = cc
site_below (x ∷ objects) object site is =
    let count = length-append x.symbols (symbols_of objects) in
    elim (ltb site (length x.symbols)) as
    (λ b. ltb site (length x.symbols) ≡ b → cond b (Some 0) (option_map suc (object_of objects (site - length x.symbols))) ≡ Some object → site < length (x.symbols ++ symbols_of objects)) [
      | true ↦ λ t e. omega (arith, ltb-true _ _ t, count)
      | false ↦ λ t e.
          let there = behind site (length x.symbols) (length (symbols_of objects)) object (object_of objects (site - length x.symbols)) (λ k at. site_below objects k (site - length x.symbols) at) (ltb-false _ _ t) e in
          omega (arith, there, count)
    ] refl is

-- a change is about a site where it is about the object that the site lies in
pub covered_in : (table : SiteTable) (only : Option ℕ) (object site : ℕ) → IsInObject (names_of table.image.objects) object site → is_covered table only site ≡ is_in_scope only table.loaded object
covered_in table only object site lies = ap (is_object_in_scope only table.loaded) (object_of-named table.image.objects object site lies.from lies.below)

pub lies_below : (objects : List Object) (object site : ℕ) → IsInObject (names_of objects) object site → site < length (symbols_of objects)
lies_below objects object site lies = site_below objects object site (object_of-named objects object site lies.from lies.below)

-- the site of a function whose object is meant, or isn't
module _ (table : SiteTable) (only : Option ℕ) (object own : ℕ) (lies : IsInObject (names_of table.image.objects) object own) (site : ℕ) where
  pub in_scope_at : is_in_scope only table.loaded object ≡ true → eqb own site ≡ (is_covered table only site && eqb own site)
  in_scope_at in_scope = elim (eqb own site) as (λ b. eqb own site ≡ b → b ≡ (is_covered table only site && b)) [
    | true ↦ λ e. rw (ap (is_covered table only) (sym (eqb-true own site e)) ∙ covered_in table only object own lies ∙ in_scope)
    | false ↦ λ e. sym (and_right (is_covered table only site) false refl)
  ] refl

  pub not_in_scope_at : is_in_scope only table.loaded object ≡ false → false ≡ (is_covered table only site && eqb own site)
  not_in_scope_at in_scope = elim (eqb own site) as (λ b. eqb own site ≡ b → false ≡ (is_covered table only site && b)) [
    | true ↦ λ e. rw (ap (is_covered table only) (sym (eqb-true own site e)) ∙ covered_in table only object own lies ∙ in_scope)
    | false ↦ λ e. sym (and_right (is_covered table only site) false refl)
  ] refl

-- the same where a function may be without a site
pub meant_at : (table : SiteTable) (only : Option ℕ) (object : ℕ) (own : Option ℕ) → IfSome own (IsInObject (names_of table.image.objects) object) → (site : ℕ)
    → is_in_scope only table.loaded object ≡ true → is_at own site ≡ (is_covered table only site && is_at own site)
meant_at table only object None lies site in_scope = sym (and_right (is_covered table only site) false refl)
meant_at table only object (Some own) lies site in_scope = in_scope_at table only object own lies site in_scope

pub not_meant_at : (table : SiteTable) (only : Option ℕ) (object : ℕ) (own : Option ℕ) → IfSome own (IsInObject (names_of table.image.objects) object) → (site : ℕ)
    → is_in_scope only table.loaded object ≡ false → false ≡ (is_covered table only site && is_at own site)
not_meant_at table only object None lies site in_scope = sym (and_right (is_covered table only site) false refl)
not_meant_at table only object (Some own) lies site in_scope = not_in_scope_at table only object own lies site in_scope

pub all_below_count : (objects : List Object) (object : ℕ) (own : Option ℕ) → IfSome own (IsInObject (names_of objects) object)
    → IfSome own (λ site. site < length (symbols_of objects))
all_below_count objects object None lies = lies
all_below_count objects object (Some own) lies = lies_below objects object own lies

-- how many symbols an object has; one that isn't there has none
abbrev pub symbol_count : List Object → ℕ → ℕ
symbol_count objects object = unwrap_or (option_map (λ (found : Object). length found.symbols) (slice_get objects object)) 0

-- a site lies in the next object, or behind it
pub object_next : (objects : List Object) (n left : ℕ)
    → object_of (drop n objects) left ≡ cond (ltb left (symbol_count objects n)) (Some 0) (option_map suc (object_of (drop (suc n) objects) (left - symbol_count objects n)))
object_next [] zero left = rw (le-ltb left 0 (omega arith)) refl
object_next [] (suc n) left = rw (le-ltb left 0 (omega arith)) refl
object_next (object ∷ objects) zero left = refl
object_next (object ∷ objects) (suc n) left = object_next objects n left

-- the object of a site, where it lies so many symbols behind the first of an object
abbrev pub IsBehind : List Object → ℕ → ℕ → ℕ → Type 0
IsBehind objects site n left = object_of objects site ≡ option_map (λ o. n + o) (object_of (drop n objects) left)

module _ (objects : List Object) (site n left : ℕ) (behind : IsBehind objects site n left) where
  pub in_object : left < symbol_count objects n → object_of objects site ≡ Some n
  in_object below =
      let here : n + 0 ≡ n = omega arith in
      behind ∙ ap (option_map (λ o. n + o)) (object_next objects n left ∙ ap (λ b. cond b (Some 0) (option_map suc (object_of (drop (suc n) objects) (left - symbol_count objects n)))) (lt-ltb left (symbol_count objects n) below))
      ∙ ap Some here

  pub behind_object : symbol_count objects n ≤ left → IsBehind objects site (n + 1) (left - symbol_count objects n)
  behind_object past = rw (add-one) (
      behind ∙ ap (option_map (λ o. n + o)) (object_next objects n left ∙ ap (λ b. cond b (Some 0) (option_map suc (object_of (drop (suc n) objects) (left - symbol_count objects n)))) (le-ltb left (symbol_count objects n) past))
      ∙ one_more (object_of (drop (suc n) objects) (left - symbol_count objects n))
      )
    where
      one_more : (own : Option ℕ) → option_map (λ o. n + o) (option_map suc own) ≡ option_map (λ o. suc n + o) own
      one_more None = refl
      one_more (Some own) = let same : n + suc own ≡ suc n + own = omega arith in ap Some same

  pub in_no_object : length objects ≤ n → object_of objects site ≡ None
  in_no_object past = behind ∙ ap (λ os. option_map (λ o. n + o) (object_of os left)) (drop_all n objects past)

pub all_behind : (objects : List Object) (site : ℕ) → IsBehind objects site 0 site
all_behind objects site = by (object_of objects site)
  where
    by : (own : Option ℕ) → own ≡ option_map (λ o. 0 + o) own
    by None = refl
    by (Some own) = let same : own ≡ 0 + own = omega arith in ap Some same
