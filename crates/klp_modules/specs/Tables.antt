-- The tables for look-ups, and when they are right for the numbered objects.
use Rattle.std.specs.Prelude.{◌≡◌, ℕ, ◌+◌, ◌==◌, Bool, List, [], ◌∷◌, ◌++◌, length, take, slice_get, count_by, Some}
use Rattle.smallvec.specs.SmallVec.{SmallVec}
use Rattle.klp_modules.specs.NamedSites.{named_from}
use Rattle.klp_modules.specs.declared.named_sites.NamedSite.{NamedSite}
use Rattle.klp_modules.specs.Kept.{IsKept}
use Rattle.klp_modules.specs.declared.numbered.NumberedObject.{NumberedObject}
use Rattle.klp_modules.specs.declared.numbered.NumberedSymbol.{NumberedSymbol}
use Rattle.klp_modules.specs.declared.tables.Tables.{Tables}

-- each number has the symbols whose name it is
abbrev pub HasSites : List NumberedSymbol → List (SmallVec NamedSite) → Type 0
HasSites symbols tables = (number : ℕ) (sites : SmallVec NamedSite) → slice_get tables number ≡ Some sites → sites.items ≡ named_from number 0 symbols

-- an object's symbols from this index on, each with its position among all symbols of the object
abbrev pub placed : ℕ → ℕ → List ℕ → List ℕ → List NumberedSymbol
placed object place symbols [] = []
placed object place symbols (name ∷ rest) =
    (record { object = object; name = name; position = count_by (λ other. other == name) (take (place + 1) symbols) })
    ∷ placed object (place + 1) symbols rest

-- the symbols of all objects in order; the first object has this number
abbrev pub placed_symbols : ℕ → List NumberedObject → List NumberedSymbol
placed_symbols number [] = []
placed_symbols number (object ∷ objects) = placed number 0 object.symbols.items object.symbols.items ++ placed_symbols (number + 1) objects

-- the tables are right for these objects
pub record AreTabled (names : ℕ) (objects : List NumberedObject) (tables : Tables) : Type 0 where
  pub each_name : length tables.sites.items ≡ names
  pub by_name : HasSites tables.symbols.items tables.sites.items
  pub by_site : tables.symbols.items ≡ placed_symbols 0 objects

-- what the modules store, with the tables for it
pub record IsTabled (texts : List (List ℕ)) (objects : List NumberedObject) (loaded : List Bool) (tables : Tables) : Type 0 where
  pub kept : IsKept texts objects loaded
  pub tabled : AreTabled (length texts) objects tables
