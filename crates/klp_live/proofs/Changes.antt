-- Rows that are set one after the other.
use Rattle.std.proofs.Common.{◌≡◌, ℕ, zero, suc, ◌+◌, ◌-◌, ◌<◌, ◌≤◌, ◌==◌, ◌||◌, Bool, true, false, List, [], ◌∷◌, ◌++◌, length, Option, Some, None, is_some, option_map, slice_get, slice_set, slice_index_or, refl, sym, ap, subst, ◌∙◌, arith, ⊎_elim, if◌then◌else◌, length-append, nat_lt}
use Rattle.std.specs.Option.{option_and_then}
use Rattle.std.proofs.lemmas.Bool.{eq-eqb, eqb-true, both_ways}
use Rattle.std.proofs.lemmas.Bool.Decides.{nat_tests}
use Rattle.std.proofs.lemmas.List.{get_or-set_same, get_or-set_other, length-set, append-nil}
use Rattle.klp_types.specs.declared.row.SiteRow.{SiteRow}
use Rattle.klp_types.specs.Image.{Object, object_of, first_site}
use Rattle.klp_types.specs.Setting.{Setting, Function, functions_of, function_for, is_at}
use Rattle.klp_types.specs.Entries.{patches_site}
use Rattle.klp_model.specs.State.{State}
use Rattle.klp_model.specs.Rows.{row_of}
use Rattle.klp_core.specs.Sites.{sites_in}
use Rattle.klp_live.specs.Listed.{NewRow, AreRowsOf, is_listed, new_row, with_rows}
use Rattle.klp_live.proofs.Tables.{below}

pub length-with_rows : (rows : List (Option SiteRow)) (list : List NewRow) → length (with_rows rows list) ≡ length rows
length-with_rows rows [] = refl
length-with_rows rows (first ∷ rest) = length-with_rows (slice_set rows first.0 first.1) rest ∙ length-set rows first.0 first.1

module _ (setting : Setting) (state : State) where
  -- a site has the row that is listed, or else the one that it had
  pub set_rows : (rows : List (Option SiteRow)) (list : List NewRow) → AreRowsOf setting state list → (site : ℕ) → site < length rows
      → (is_listed site list ≡ false → slice_index_or rows site None ≡ row_of setting state site) → slice_index_or (with_rows rows list) site None ≡ row_of setting state site
  set_rows rows [] right site at was = was refl
  set_rows rows (first ∷ rest) right site at was =
      set_rows (slice_set rows first.0 first.1) rest right.1 site (omega (arith, length-set rows first.0 first.1)) (λ away. by (first.0 == site) refl away)
    where
      by : (t : Bool) → (first.0 == site) ≡ t → is_listed site rest ≡ false → slice_index_or (slice_set rows first.0 first.1) site None ≡ row_of setting state site
      by true is away =
          let own : first.0 ≡ site = eqb-true first.0 site is in
          subst (λ n. slice_index_or (slice_set rows n first.1) site None ≡ row_of setting state site) (sym own)
          (get_or-set_same rows site first.1 None at ∙ right.0 ∙ ap (row_of setting state) own)
      by false is away =
          get_or-set_other rows first.0 site first.1 None (λ e. both_ways (first.0 == site) is (eq-eqb first.0 site (sym e)))
          ∙ was (ap (λ b. b || is_listed site rest) is ∙ away)

abbrev pub site_at : List Function → ℕ → Option ℕ
site_at functions number = option_and_then (λ (f : Function). f.site) (slice_get functions number)

-- a site that is patched is that of a function
pub site_found : (functions : List Function) (site : ℕ) → is_some (function_for functions site) ≡ true → (number : ℕ) × (number < length functions) × (site_at functions number ≡ Some site)
site_found [] site is = absurd (cc is)
site_found (function ∷ functions) site is = by (is_at function.site site) refl is (site_found functions site)
  where
    own : (o : Option ℕ) → is_at o site ≡ true → o ≡ Some site
    own None e = absurd (cc e)
    own (Some n) e = ap Some (eqb-true n site e)

    some_suc : (o : Option ℕ) → is_some (option_map suc o) ≡ true → is_some o ≡ true
    some_suc None e = e
    some_suc (Some n) e = refl

    by : (t : Bool) → is_at function.site site ≡ t → is_some (if t then Some 0 else option_map suc (function_for functions site)) ≡ true
        → (is_some (function_for functions site) ≡ true → (number : ℕ) × (number < length functions) × (site_at functions number ≡ Some site))
        → (number : ℕ) × (number < length (function ∷ functions)) × (site_at (function ∷ functions) number ≡ Some site)
    by true e found behind = (0, omega arith, own function.site e)
    by false e found behind =
        let rest = behind (some_suc (function_for functions site) found) in
        let at : rest.0 < length functions = rest.1 in
        (suc rest.0, omega (arith, at), rest.2)

-- a row added to a list is listed, and so is what was
pub listed_last : (list : List NewRow) (site : ℕ) (row : Option SiteRow) → is_listed site (list ++ (site, row) ∷ []) ≡ true
listed_last [] site row = ap (λ b. b || false) (eq-eqb site site refl)
listed_last (first ∷ rest) site row = by (first.0 == site) (listed_last rest site row)
  where
    by : (t : Bool) → is_listed site (rest ++ (site, row) ∷ []) ≡ true → (t || is_listed site (rest ++ (site, row) ∷ [])) ≡ true
    by true e = refl
    by false e = e

pub listed_still : (list : List NewRow) (more : NewRow) (site : ℕ) → is_listed site list ≡ true → is_listed site (list ++ more ∷ []) ≡ true
listed_still [] more site is = absurd (cc is)
listed_still (first ∷ rest) more site is = by (first.0 == site) is (listed_still rest more site)
  where
    by : (t : Bool) → (t || is_listed site rest) ≡ true → (is_listed site rest ≡ true → is_listed site (rest ++ more ∷ []) ≡ true) → (t || is_listed site (rest ++ more ∷ [])) ≡ true
    by true found behind = refl
    by false found behind = behind found

pub rows_last : (setting : Setting) (state : State) (list : List NewRow) (site : ℕ) (row : Option SiteRow) → AreRowsOf setting state list → row ≡ row_of setting state site → AreRowsOf setting state (list ++ (site, row) ∷ [])
rows_last setting state [] site row are is = (is, tt)
rows_last setting state (first ∷ rest) site row are is = (are.0, rows_last setting state rest site row are.1 is)

-- the rows of the first of these sites
pub record AreFirst (setting : Setting) (state : State) (at : ℕ → Option ℕ) (number : ℕ) (list : List NewRow) : Type 0 where
  pub right : AreRowsOf setting state list
  pub all : (site k : ℕ) → k < number → at k ≡ Some site → is_listed site list ≡ true
  pub few : length list ≤ number

-- and of one more
pub one_more : (setting : Setting) (state : State) (at : ℕ → Option ℕ) (number : ℕ) (list : List NewRow) → AreFirst setting state at number list
    → AreFirst setting state at (number + 1) (list ++ new_row setting state (at number))
one_more setting state at number list are = by (at number) refl
  where
    same : (own site k : ℕ) → at number ≡ Some own → number ≤ k → k < number + 1 → at k ≡ Some site → own ≡ site
    same own site k is le lt found = let e : k ≡ number = omega arith in cc (sym is ∙ ap at (sym e) ∙ found)

    by : (own : Option ℕ) → at number ≡ own → AreFirst setting state at (number + 1) (list ++ new_row setting state own)
    by None is = record {
      right = subst (AreRowsOf setting state) (sym (append-nil list)) are.right;
      all = λ site k lt found. ⊎_elim (λ (h : k < number). ap (is_listed site) (append-nil list) ∙ are.all site k h found)
          (λ (h : number ≤ k). let e : k ≡ number = omega arith in absurd (cc (sym is ∙ ap at (sym e) ∙ found))) (below k number);
      few = omega (arith, are.few, ap length (append-nil list));
    }
    by (Some own) is = record {
      right = rows_last setting state list own (row_of setting state own) are.right refl;
      all = λ site k lt found. ⊎_elim (λ (h : k < number). listed_still list (own, row_of setting state own) site (are.all site k h found))
          (λ (h : number ≤ k). subst (λ s. is_listed s (list ++ (own, row_of setting state own) ∷ []) ≡ true) (same own site k is h lt found) (listed_last list own (row_of setting state own))) (below k number);
      few = omega (arith, are.few, length-append list ((own, row_of setting state own) ∷ []));
    }

-- all of them: each site that is patched
pub all_listed : (setting : Setting) (state : State) (patch number : ℕ) (list : List NewRow) → length (functions_of setting patch) ≤ number → AreFirst setting state (site_at (functions_of setting patch)) number list
    → (site : ℕ) → patches_site setting site patch ≡ true → is_listed site list ≡ true
all_listed setting state patch number list all are site is =
    let found = site_found (functions_of setting patch) site is in
    let at : found.0 < length (functions_of setting patch) = found.1 in
    are.all site found.0 (omega (arith, at, all)) found.2

-- a site of an object is one of those from its first site on
module _ (rest : Option ℕ) where
  not_first : is_at (option_map suc rest) 0 ≡ true → ⊥
  not_first = by rest
    where
      by : (o : Option ℕ) → is_at (option_map suc o) 0 ≡ true → ⊥
      by None e = cc e
      by (Some n) e = let same : suc n ≡ 0 = eqb-true (suc n) 0 e in omega arith

  of_rest : (object : ℕ) → is_at (option_map suc rest) (suc object) ≡ true → is_at rest object ≡ true
  of_rest object = by rest
    where
      by : (o : Option ℕ) → is_at (option_map suc o) (suc object) ≡ true → is_at o object ≡ true
      by None e = e
      by (Some n) e = let same : suc n ≡ suc object = eqb-true (suc n) (suc object) e in eq-eqb n object (omega arith)

abbrev pub IsPlaceIn : List Object → ℕ → ℕ → ℕ → Type 0
IsPlaceIn objects object site place = (place < sites_in objects object) × (first_site objects object + place ≡ site)

pub place_in : (objects : List Object) (object site : ℕ) → is_at (object_of objects site) object ≡ true → (place : ℕ) × IsPlaceIn objects object site place
place_in [] object site is = absurd (cc is)
place_in (first ∷ rest) object site is = by (nat_lt site (length first.symbols)) refl object is (λ o at. place_in rest o (site - length first.symbols) at)
  where
    by : (t : Bool) → nat_lt site (length first.symbols) ≡ t → (object : ℕ)
        → is_at (if t then Some 0 else option_map suc (object_of rest (site - length first.symbols))) object ≡ true
        → ((o : ℕ) → is_at (object_of rest (site - length first.symbols)) o ≡ true → (place : ℕ) × IsPlaceIn rest o (site - length first.symbols) place)
        → (place : ℕ) × IsPlaceIn (first ∷ rest) object site place
    by true lt zero is behind = (site, (grind (arith, nat_tests), omega arith))
    by true lt (suc object) is behind = let same : 0 ≡ suc object = eqb-true 0 (suc object) is in absurd (omega arith)
    by false lt zero is behind = absurd (not_first (object_of rest (site - length first.symbols)) is)
    by false lt (suc object) is behind =
        let le : length first.symbols ≤ site = grind (arith, nat_tests) in
        let found = behind object (of_rest (object_of rest (site - length first.symbols)) object is) in
        let at : first_site rest object + found.0 ≡ site - length first.symbols = found.1.1 in
        (found.0, (found.1.0, omega (arith, at, le)))

-- the site at a place of an object
abbrev pub site_from : ℕ → ℕ → Option ℕ
site_from first place = Some (first + place)

-- all of them: each site of the object
pub all_in_object : (setting : Setting) (state : State) (object number : ℕ) (list : List NewRow) → sites_in setting.image.objects object ≤ number
    → AreFirst setting state (site_from (first_site setting.image.objects object)) number list
    → (site : ℕ) → is_at (object_of setting.image.objects site) object ≡ true → is_listed site list ≡ true
all_in_object setting state object number list all are site is =
    let found = place_in setting.image.objects object site is in
    let at : found.0 < sites_in setting.image.objects object = found.1.0 in
    are.all site found.0 (omega (arith, at, all)) (ap Some found.1.1)
