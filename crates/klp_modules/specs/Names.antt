-- The names of an image, and how a function's name and position pick a symbol.
use Rattle.std.specs.Prelude.{ℕ, zero, suc, ◌+◌, ◌-◌, Bool, true, false, nat_lt, List, [], ◌∷◌, length, map, replicate, take, slice_get, slice_set, bytes_eq, Option, Some, None, option_map, Result, Ok, Err, ok_or, count_by, position, if◌then◌else◌}
use Rattle.klp_types.specs.Image.{Symbol, Object}
use Rattle.klp_modules.specs.declared.fault.SymbolFault.{SymbolFault}
use Rattle.klp_modules.specs.declared.fault.SymbolFault.TheVariants.{Missing, Ambiguous, NoPosition}

-- an object's name, and the names of its symbols in order
pub record ObjectNames : Type 0 where
  pub name : List ℕ
  pub symbols : List (List ℕ)

-- what a contract sees of the modules: the names of all objects in order, and for each object whether it is loaded
pub record ModuleTable : Type 0 where
  pub names : List ObjectNames
  pub loaded : List Bool

abbrev pub names_of_object : Object → ObjectNames
names_of_object object = record { name = object.name; symbols = map (λ (s : Symbol). s.name) object.symbols }

-- the names of an image
abbrev pub names_of : List Object → List ObjectNames
names_of objects = map names_of_object objects

-- the modules when they are made: only object 0 is loaded
abbrev pub opening : List Object → ModuleTable
opening objects = record { names = names_of objects; loaded = slice_set (replicate (length objects) false) 0 true }

-- the number of the object with this name
abbrev pub object_named : List ObjectNames → List ℕ → Option ℕ
object_named names name = position (λ (object : ObjectNames). bytes_eq name object.name) names

-- the names of an object's symbols; none if there is no such object
abbrev pub symbol_names : Option ObjectNames → List (List ℕ)
symbol_names None = []
symbol_names (Some object) = object.symbols

-- the site of an object's first symbol
abbrev pub first_site : List ObjectNames → ℕ → ℕ
first_site [] number = 0
first_site (object ∷ objects) zero = 0
first_site (object ∷ objects) (suc number) = length object.symbols + first_site objects number

-- the sites of the items that pass the test; the first item has this site
abbrev pub sites_where : {A : Type 0} → (A → Bool) → ℕ → List A → List ℕ
sites_where test site [] = []
sites_where test site (x ∷ xs) = if test x then site ∷ sites_where test (suc site) xs else sites_where test (suc site) xs

-- the site that a position picks: 0 means the only one, n the n-th
abbrev pub picked : List ℕ → ℕ → Result ℕ SymbolFault
picked [] position = Err Missing
picked (site ∷ []) zero = Ok site
picked (site ∷ other ∷ sites) zero = Err Ambiguous
picked (site ∷ sites) (suc n) = ok_or (slice_get (site ∷ sites) n) NoPosition

-- the site that an object, a name and a position pick
abbrev pub resolved : List ObjectNames → ℕ → List ℕ → ℕ → Result ℕ SymbolFault
resolved names object name position =
    picked (sites_where (bytes_eq name) (first_site names object) (symbol_names (slice_get names object))) position

-- a symbol: its object, its name, and its position, from 1, among the symbols of that name in the object
pub record Named : Type 0 where
  pub object : ℕ
  pub name : List ℕ
  pub position : ℕ

-- the symbol of an object with this index
abbrev pub named_at : ℕ → List (List ℕ) → ℕ → Option Named
named_at object symbols place =
    option_map (λ name. record { object = object; name = name; position = count_by (bytes_eq name) (take (place + 1) symbols) }) (slice_get symbols place)

-- the symbol of a site; the first object has this number, and site 0 is its first symbol
abbrev pub symbol_from : ℕ → List ObjectNames → ℕ → Option Named
symbol_from number [] site = None
symbol_from number (object ∷ objects) site =
    if nat_lt site (length object.symbols) then named_at number object.symbols site
    else symbol_from (suc number) objects (site - length object.symbols)

-- the symbol of a site
abbrev pub symbol_at_site : List ObjectNames → ℕ → Option Named
symbol_at_site names site = symbol_from 0 names site
