-- Laws of the tables that look-ups go by.
use Rattle.std.proofs.Common.{◌≡◌, ℕ, zero, suc, ◌+◌, ◌-◌, ◌<◌, ◌≤◌, List, [], ◌∷◌, ◌++◌, length, get_or, map, take, Bool, true, false, Option, Some, None, refl, ap, sym, ◌∙◌, subst, arith, length-append, inl, inr, ◌≢◌}
use Rattle.std.specs.Prelude.{option_map, ◌==◌, slice_get, count_by, position, bytes_eq, slice_set}
use Rattle.std.proofs.lemmas.List.{take_more, length-map, length-set, length-take, get_or-set_same, get_or-set_other, append-nil}
use Rattle.std.proofs.lemmas.Bool.{lt-ltb, le-ltb, cases_lt, eq-eqb, eqb-true, ne_eqb}
use Rattle.std.proofs.lemmas.Option.{slice_get-get_or, slice_get-map, slice_get_within, slice_get_past, get_or_from_slice_get}
use Rattle.std.specs.List.{All}
use Rattle.smallvec.specs.SmallVec.{SmallVec}
use Rattle.std.proofs.lemmas.List.Elements.{All-head, All-tail}
use Rattle.klp_types.proofs.SiteLemmas.{slice_get-append_left, slice_get-append_right}
use Rattle.klp_modules.specs.Names.{Named, named_at, symbol_from, symbol_at_site, sites_where, picked, resolved}
use Rattle.klp_modules.specs.Kept.{text_at, names_from, symbol_count, numbered_first_site, HasTexts, IsApart}
use Rattle.klp_modules.proofs.NameLaws.{first_site-count, named_is, resolved_found, resolved_past}
use Rattle.klp_modules.specs.Tables.{HasSites, placed, placed_symbols}
use Rattle.klp_modules.specs.NamedSites.{sites_of, named_from}
use Rattle.klp_modules.specs.declared.named_sites.NamedSite.{NamedSite}
use Rattle.klp_modules.specs.declared.numbered.NumberedObject.{NumberedObject}
use Rattle.klp_modules.specs.declared.numbered.NumberedSymbol.{NumberedSymbol}

pub length-take_all : {A : Type 0} (n : ℕ) (xs : List A) → n ≤ length xs → length (take n xs) ≡ n
length-take_all n xs h = omega (arith, length-take n xs)

-- ---- symbols by name

named_from-append : (number site : ℕ) (xs ys : List NumberedSymbol) →
    named_from number site (xs ++ ys) ≡ named_from number site xs ++ named_from number (site + length xs) ys
named_from-append number site [] ys = let none : site + 0 ≡ site = omega arith in rw none refl
named_from-append number site (x ∷ xs) ys =
    let next : suc site + length xs ≡ site + suc (length xs) = omega arith in
    by (x.name == number) refl (rw next at (named_from-append number (suc site) xs ys))
  where
    by : (b : Bool) → (x.name == number) ≡ b →
        named_from number (suc site) (xs ++ ys) ≡ named_from number (suc site) xs ++ named_from number (site + suc (length xs)) ys →
        named_from number site (x ∷ xs ++ ys) ≡ named_from number site (x ∷ xs) ++ named_from number (site + suc (length xs)) ys
    by true e rest = rw e (ap (λ sites. record { object = x.object; site = site } ∷ sites) rest)
    by false e rest = rw e rest

-- one symbol more
named_more : (place number : ℕ) (symbols : List NumberedSymbol) (symbol : NumberedSymbol) → place < length symbols → symbol ≡ get_or symbols place symbol →
    named_from number 0 (take (place + 1) symbols)
    ≡ named_from number 0 (take place symbols) ++ named_from number place (symbol ∷ [])
named_more place number symbols symbol below is =
    let size : length (take place symbols) ≡ place = length-take_all place symbols (omega (arith, below)) in
    let last : take (place + 1) symbols ≡ take place symbols ++ symbol ∷ [] =
    take_more symbols place symbol below ∙ ap (λ x. take place symbols ++ x ∷ []) (sym is) in
    let from : 0 + length (take place symbols) ≡ place = omega (arith, size) in
    ap (named_from number 0) last ∙ (named_from-append number 0 (take place symbols) (symbol ∷ [])
    ∙ ap (λ n. named_from number 0 (take place symbols) ++ named_from number n (symbol ∷ [])) from)

pub has_more : (place : ℕ) (symbols : List NumberedSymbol) (symbol : NumberedSymbol) (tables : List (SmallVec NamedSite)) (own new : SmallVec NamedSite) →
    place < length symbols → symbol ≡ get_or symbols place symbol → symbol.name < length tables →
    HasSites (take place symbols) tables → own ≡ get_or tables symbol.name own →
    new.items ≡ own.items ++ record { object = symbol.object; site = place } ∷ [] →
    HasSites (take (place + 1) symbols) (slice_set tables symbol.name new)
has_more place symbols symbol tables own new below is there has own_is pushed = λ number sites at.
    by number sites at (symbol.name == number) refl
  where
    by : (number : ℕ) (sites : SmallVec NamedSite) → slice_get (slice_set tables symbol.name new) number ≡ Some sites →
        (b : Bool) → (symbol.name == number) ≡ b → sites.items ≡ named_from number 0 (take (place + 1) symbols)
    by number sites at true e =
        let same : symbol.name ≡ number = eqb-true symbol.name number e in
        let found : sites ≡ new =
        sym (get_or_from_slice_get (slice_set tables symbol.name new) number sites own at)
        ∙ (ap (λ n. get_or (slice_set tables symbol.name new) n own) (sym same) ∙ get_or-set_same tables symbol.name new own there) in
        let before : slice_get tables symbol.name ≡ Some own = slice_get-get_or tables symbol.name own there ∙ ap Some (sym own_is) in
        let so_far : own.items ≡ named_from number 0 (take place symbols) = rw same at (has symbol.name own before) in
        rw (named_more place number symbols symbol below is, e, found, pushed, so_far) refl
    by number sites at false e =
        let differ : number ≢ symbol.name = λ same. let no : ⊥ = apart e (eq-eqb symbol.name number (sym same)) in no in
        let size : number < length tables = omega (arith, slice_get_within (slice_set tables symbol.name new) number sites at, length-set tables symbol.name new) in
        let old : slice_get tables number ≡ Some sites =
        slice_get-get_or tables number sites size
        ∙ ap Some (sym (get_or-set_other tables symbol.name number new sites differ) ∙ get_or_from_slice_get (slice_set tables symbol.name new) number sites sites at) in
        rw (named_more place number symbols symbol below is, e) (has number sites old ∙ sym (append-nil (named_from number 0 (take place symbols))))
      where
        apart : {b : Bool} → b ≡ false → b ≡ true → ⊥
        apart fails holds = let it : ⊥ = cc in it

sites_of-append : (object : ℕ) (xs ys : List NamedSite) → sites_of object (xs ++ ys) ≡ sites_of object xs ++ sites_of object ys
sites_of-append object [] ys = refl
sites_of-append object (x ∷ xs) ys = by (x.object == object) refl (sites_of-append object xs ys)
  where
    by : (b : Bool) → (x.object == object) ≡ b → sites_of object (xs ++ ys) ≡ sites_of object xs ++ sites_of object ys →
        sites_of object (x ∷ xs ++ ys) ≡ sites_of object (x ∷ xs) ++ sites_of object ys
    by true e rest = rw e (ap (λ sites. x.site ∷ sites) rest)
    by false e rest = rw e rest

-- ---- symbols by site

pub symbols_few : (objects : List NumberedObject) (o : ℕ) (object : NumberedObject) → slice_get objects o ≡ Some object →
    length object.symbols.items ≤ symbol_count objects
symbols_few objects o object here = omega (arith, first_site-count objects o object here)

-- the symbol at a place of an object
pub slice_get-placed : (o place : ℕ) (symbols rest : List ℕ) (n : ℕ) →
    slice_get (placed o place symbols rest) n
    ≡ option_map (λ name. record { object = o; name = name; position = count_by (λ other. other == name) (take (place + n + 1) symbols) }) (slice_get rest n)
slice_get-placed o place symbols [] n = refl
slice_get-placed o place symbols (name ∷ rest) zero =
    let same : place + 0 + 1 ≡ place + 1 = omega arith in rw same refl
slice_get-placed o place symbols (name ∷ rest) (suc n) =
    let same : place + suc n + 1 ≡ place + 1 + n + 1 = omega arith in
    rw same (slice_get-placed o (place + 1) symbols rest n)

pub length-placed : (o place : ℕ) (symbols rest : List ℕ) → length (placed o place symbols rest) ≡ length rest
length-placed o place symbols [] = refl
length-placed o place symbols (name ∷ rest) = omega (arith, length-placed o (place + 1) symbols rest)

pub length-placed_symbols : (number : ℕ) (objects : List NumberedObject) → length (placed_symbols number objects) ≡ symbol_count objects
length-placed_symbols number [] = refl
length-placed_symbols number (object ∷ objects) =
    let own = placed number 0 object.symbols.items object.symbols.items in
    omega (
      arith,
      length-append own (placed_symbols (number + 1) objects),
      length-placed number 0 object.symbols.items object.symbols.items,
      length-placed_symbols (number + 1) objects,
    )

-- a symbol as a contract sees it
abbrev pub named_of : List (List ℕ) → NumberedSymbol → Named
named_of texts symbol = record { object = symbol.object; name = text_at texts symbol.name; position = symbol.position }

placed_here : (texts : List (List ℕ)) (object : NumberedObject) (o place : ℕ) (found : Option ℕ) → HasTexts texts object → IsApart texts →
    slice_get object.symbols.items place ≡ found →
    option_map (named_of texts) (slice_get (placed o 0 object.symbols.items object.symbols.items) place)
    ≡ named_at o (map (text_at texts) object.symbols.items) place
placed_here texts object o place None there apart at =
    let none : slice_get (map (text_at texts) object.symbols.items) place ≡ None =
    slice_get-map (text_at texts) object.symbols.items place ∙ ap (option_map (text_at texts)) at in
    rw (slice_get-placed o 0 object.symbols.items object.symbols.items place, at, none) refl
placed_here texts object o place (Some number) there apart at =
    let same : 0 + place + 1 ≡ place + 1 = omega arith in
    rw (slice_get-placed o 0 object.symbols.items object.symbols.items place, at, same)
    (sym (named_is texts object o place number there apart at))

-- the symbol of a site is that of the table
pub symbol_placed : (texts : List (List ℕ)) (objects : List NumberedObject) (o site : ℕ) → All (HasTexts texts) objects → IsApart texts →
    option_map (named_of texts) (slice_get (placed_symbols o objects) site) ≡ symbol_from o (names_from texts objects) site
symbol_placed texts [] o site all apart = refl
symbol_placed texts (object ∷ objects) o site all apart =
    let there : HasTexts texts object = All-head (HasTexts texts) object objects all in
    let size : length (placed o 0 object.symbols.items object.symbols.items) ≡ length object.symbols.items = length-placed o 0 object.symbols.items object.symbols.items in
    let names : length (map (text_at texts) object.symbols.items) ≡ length object.symbols.items = length-map object.symbols.items (text_at texts) in
    let next : o + 1 ≡ suc o = omega arith in
    elim (cases_lt site (length object.symbols.items)) [
      | inl here ↦
          rw (
            slice_get-append_left (placed o 0 object.symbols.items object.symbols.items) (placed_symbols (o + 1) objects) site (omega (arith, here, size)),
            names,
            lt-ltb site (length object.symbols.items) here,
          )
          (placed_here texts object o site (slice_get object.symbols.items site) there apart refl)
      | inr behind ↦
          rw (
            slice_get-append_right (placed o 0 object.symbols.items object.symbols.items) (placed_symbols (o + 1) objects) site (omega (arith, behind, size)),
            size,
            names,
            le-ltb site (length object.symbols.items) behind,
            next,
          )
          (symbol_placed texts objects (suc o) (site - length object.symbols.items) (All-tail (HasTexts texts) object objects all) apart)
    ]

-- and its name has a text
pub name_there : (texts : List (List ℕ)) (objects : List NumberedObject) (o site : ℕ) (symbol : NumberedSymbol) → All (HasTexts texts) objects →
    slice_get (placed_symbols o objects) site ≡ Some symbol → symbol.name < length texts
name_there texts [] o site symbol all at = let no : ⊥ = cc in absurd no
name_there texts (object ∷ objects) o site symbol all at =
    let there : HasTexts texts object = All-head (HasTexts texts) object objects all in
    let size : length (placed o 0 object.symbols.items object.symbols.items) ≡ length object.symbols.items = length-placed o 0 object.symbols.items object.symbols.items in
    elim (cases_lt site (length object.symbols.items)) [
      | inl here ↦
          by (slice_get object.symbols.items site) refl there
          (sym (slice_get-placed o 0 object.symbols.items object.symbols.items site)
          ∙ (sym (slice_get-append_left (placed o 0 object.symbols.items object.symbols.items) (placed_symbols (o + 1) objects) site (omega (arith, here, size))) ∙ at))
      | inr behind ↦
          name_there texts objects (o + 1) (site - length (placed o 0 object.symbols.items object.symbols.items)) symbol (All-tail (HasTexts texts) object objects all)
          (sym (slice_get-append_right (placed o 0 object.symbols.items object.symbols.items) (placed_symbols (o + 1) objects) site (omega (arith, behind, size))) ∙ at)
    ]
  where
    by : (found : Option ℕ) → slice_get object.symbols.items site ≡ found → HasTexts texts object →
        option_map (λ name. record { object = o; name = name; position = count_by (λ other. other == name) (take (0 + site + 1) object.symbols.items) }) (slice_get object.symbols.items site) ≡ Some symbol →
        symbol.name < length texts
    by None is there h = let no : ⊥ = cc in absurd no
    by (Some number) is there h =
        let same : Some number ≡ option_map (λ (s : NumberedSymbol). s.name) (Some symbol) =
        sym (ap (option_map (λ (s : NumberedSymbol). s.name)) (sym h) ∙ ap (λ (n : Option ℕ). option_map (λ (s : NumberedSymbol). s.name) (option_map (λ name. record { object = o; name = name; position = count_by (λ other. other == name) (take (0 + site + 1) object.symbols.items) }) n)) is) in
        let name_is : number ≡ symbol.name = cc same in
        let inside : number < length texts =
        subst (λ (n : ℕ). n < length texts) (get_or_from_slice_get object.symbols.items site number 0 is) (there.symbols site 0 (slice_get_within object.symbols.items site number is)) in
        subst (λ (n : ℕ). n < length texts) name_is inside

pub symbol_found : (texts : List (List ℕ)) (objects : List NumberedObject) (symbols : List NumberedSymbol) (site : ℕ) (symbol : NumberedSymbol) →
    symbols ≡ placed_symbols 0 objects → All (HasTexts texts) objects → IsApart texts → slice_get symbols site ≡ Some symbol →
    Some (named_of texts symbol) ≡ symbol_at_site (names_from texts objects) site
symbol_found texts objects symbols site symbol is all apart at =
    ap (option_map (named_of texts)) (sym at ∙ ap (λ xs. slice_get xs site) is) ∙ symbol_placed texts objects 0 site all apart

pub symbol_past : (texts : List (List ℕ)) (objects : List NumberedObject) (symbols : List NumberedSymbol) (site : ℕ) →
    symbols ≡ placed_symbols 0 objects → All (HasTexts texts) objects → IsApart texts → length symbols ≤ site →
    None ≡ symbol_at_site (names_from texts objects) site
symbol_past texts objects symbols site is all apart past =
    ap (option_map (named_of texts)) (sym (slice_get_past symbols site past) ∙ ap (λ xs. slice_get xs site) is) ∙ symbol_placed texts objects 0 site all apart

-- ---- the symbol that a name and a position pick

not_within : {A : Type 0} (xs : List A) (o : ℕ) → slice_get xs o ≡ None → length xs ≤ o
not_within [] o none = omega arith
not_within (x ∷ xs) zero none = let no : ⊥ = cc in absurd no
not_within (x ∷ xs) (suc o) none = omega (arith, not_within xs o none)

-- an object's own symbols of a name have the sites of that name
placed_own : (number site object place : ℕ) (symbols rest : List ℕ) →
    sites_of object (named_from number site (placed object place symbols rest)) ≡ sites_where (λ other. other == number) site rest
placed_own number site object place symbols [] = refl
placed_own number site object place symbols (name ∷ rest) =
    by (name == number) refl (placed_own number (suc site) object (place + 1) symbols rest)
  where
    by : (b : Bool) → (name == number) ≡ b →
        sites_of object (named_from number (suc site) (placed object (place + 1) symbols rest)) ≡ sites_where (λ other. other == number) (suc site) rest →
        sites_of object (named_from number site (placed object place symbols (name ∷ rest))) ≡ sites_where (λ other. other == number) site (name ∷ rest)
    by true e rest_is = rw (e, eq-eqb object object refl) (ap (λ sites. site ∷ sites) rest_is)
    by false e rest_is = rw e rest_is

-- and no other object has them
placed_other : (number site object other place : ℕ) (symbols rest : List ℕ) → (object == other) ≡ false →
    sites_of other (named_from number site (placed object place symbols rest)) ≡ []
placed_other number site object other place symbols [] differ = refl
placed_other number site object other place symbols (name ∷ rest) differ =
    by (name == number) refl (placed_other number (suc site) object other (place + 1) symbols rest differ)
  where
    by : (b : Bool) → (name == number) ≡ b →
        sites_of other (named_from number (suc site) (placed object (place + 1) symbols rest)) ≡ [] →
        sites_of other (named_from number site (placed object place symbols (name ∷ rest))) ≡ []
    by true e none = rw (e, differ) none
    by false e none = rw e none

-- the symbols of a name in the first object, and in those behind it
parts : (number site k other : ℕ) (object : NumberedObject) (objects : List NumberedObject) →
    sites_of other (named_from number site (placed_symbols k (object ∷ objects)))
    ≡ sites_of other (named_from number site (placed k 0 object.symbols.items object.symbols.items))
    ++ sites_of other (named_from number (site + length object.symbols.items) (placed_symbols (k + 1) objects))
parts number site k other object objects =
    let own = placed k 0 object.symbols.items object.symbols.items in
    let size : length (placed k 0 object.symbols.items object.symbols.items) ≡ length object.symbols.items = length-placed k 0 object.symbols.items object.symbols.items in
    ap (sites_of other) (named_from-append number site own (placed_symbols (k + 1) objects))
    ∙ (sites_of-append other (named_from number site own) (named_from number (site + length own) (placed_symbols (k + 1) objects))
    ∙ ap (λ n. sites_of other (named_from number site own) ++ sites_of other (named_from number (site + n) (placed_symbols (k + 1) objects))) size)

-- an object before all of these has none of their symbols
before_all : (number site k other : ℕ) (objects : List NumberedObject) → other < k →
    sites_of other (named_from number site (placed_symbols k objects)) ≡ []
before_all number site k other [] below = refl
before_all number site k other (object ∷ objects) below =
    let differ : (k == other) ≡ false = ne_eqb k other (λ same. let no : ⊥ = omega (arith, below, same) in no) in
    parts number site k other object objects
    ∙ rw (
      placed_other number site k other 0 object.symbols.items object.symbols.items differ,
      before_all number (site + length object.symbols.items) (k + 1) other objects (omega (arith, below)),
    ) refl

behind_all : (number site k o : ℕ) (objects : List NumberedObject) → length objects ≤ o →
    sites_of (k + o) (named_from number site (placed_symbols k objects)) ≡ []
behind_all number site k o [] past = refl
behind_all number site k zero (object ∷ objects) past = absurd (omega (arith, past))
behind_all number site k (suc o) (object ∷ objects) past =
    let differ : (k == k + suc o) ≡ false = ne_eqb k (k + suc o) (λ same. let no : ⊥ = omega (arith, same) in no) in
    let next : k + suc o ≡ k + 1 + o = omega arith in
    parts number site k (k + suc o) object objects
    ∙ rw (
      placed_other number site k (k + suc o) 0 object.symbols.items object.symbols.items differ,
      next,
      behind_all number (site + length object.symbols.items) (k + 1) o objects (omega (arith, past)),
    ) refl

own_sites : (number site k o : ℕ) (objects : List NumberedObject) (object : NumberedObject) → slice_get objects o ≡ Some object →
    sites_of (k + o) (named_from number site (placed_symbols k objects))
    ≡ sites_where (λ other. other == number) (site + numbered_first_site objects o) object.symbols.items
own_sites number site k o [] object here = let no : ⊥ = cc in absurd no
own_sites number site k zero (x ∷ objects) object here =
    let same : x ≡ object = cc in
    let own : k + 0 ≡ k = omega arith in
    let first : site + 0 ≡ site = omega arith in
    rw own (parts number site k k x objects
    ∙ rw (
      placed_own number site k 0 x.symbols.items x.symbols.items,
      before_all number (site + length x.symbols.items) (k + 1) k objects (omega arith),
      first,
      ← same,
    ) (append-nil (sites_where (λ other. other == number) site x.symbols.items)))
own_sites number site k (suc o) (x ∷ objects) object here =
    let differ : (k == k + suc o) ≡ false = ne_eqb k (k + suc o) (λ same. let no : ⊥ = omega (arith, same) in no) in
    let next : k + suc o ≡ k + 1 + o = omega arith in
    let first : site + (length x.symbols.items + numbered_first_site objects o) ≡ site + length x.symbols.items + numbered_first_site objects o = omega arith in
    parts number site k (k + suc o) x objects
    ∙ rw (
      placed_other number site k (k + suc o) 0 x.symbols.items x.symbols.items differ,
      next,
      first,
    ) (own_sites number (site + length x.symbols.items) (k + 1) o objects object here)

pub resolved_tabled : (texts : List (List ℕ)) (objects : List NumberedObject) (symbols : List NumberedSymbol)
    (o place number : ℕ) (name : List ℕ) (named : List NamedSite) →
    All (HasTexts texts) objects → IsApart texts → symbols ≡ placed_symbols 0 objects → position (bytes_eq name) texts ≡ Some number →
    named ≡ named_from number 0 symbols →
    resolved (names_from texts objects) o name place ≡ picked (sites_of o named) place
resolved_tabled texts objects symbols o place number name named all apart table h is = by (slice_get objects o) refl
  where
    sites_are : sites_of o named ≡ sites_of o (named_from number 0 (placed_symbols 0 objects))
    sites_are = ap (sites_of o) (is ∙ ap (named_from number 0) table)

    plain : 0 + o ≡ o
    plain = omega arith

    first : 0 + numbered_first_site objects o ≡ numbered_first_site objects o
    first = omega arith

    by : (here : Option NumberedObject) → slice_get objects o ≡ here →
        resolved (names_from texts objects) o name place ≡ picked (sites_of o named) place
    by None none =
        let past : length objects ≤ o = not_within objects o none in
        resolved_past texts objects o place name past ∙ sym (ap (λ sites. picked sites place) (sites_are ∙ rw plain at (behind_all number 0 0 o objects past)))
    by (Some object) here =
        resolved_found texts objects o place number name object all apart h here
        ∙ sym (ap (λ sites. picked sites place) (sites_are ∙ rw (plain, first) at (own_sites number 0 0 o objects object here)))

-- ---- a flag

pub set_undone : (flags : List Bool) (o : ℕ) (flag was none : Bool) → was ≡ get_or flags o none → slice_set (slice_set flags o flag) o was ≡ flags
set_undone [] o flag was none is = refl
set_undone (x ∷ xs) zero flag was none is = ap (λ y. y ∷ xs) is
set_undone (x ∷ xs) (suc o) flag was none is = ap (λ ys. x ∷ ys) (set_undone xs o flag was none is)
