-- Which symbols a catalog of livepatches has.
use Rattle.std.specs.Prelude.{ℕ, ◌++◌, ◌&&◌, not, max, Bool, true, bytes_eq, codes, if◌then◌else◌, List, [], ◌∷◌, map, filter, replicate, Option, None}
use Rattle.std.specs.List.{flat_map, fold, list_any}
use Rattle.klp_module_matrix.specs.Names.{name_of_row, object_name}
use Rattle.klp_tables.specs.declared.patch.Object.{Object}
use Rattle.klp_module_matrix.specs.Changes.{Change, changed_by}
use Rattle.klp_module_fit.specs.declared.NamedPatch.{NamedPatch}
use Rattle.klp_module_symbols.specs.Kernel.{RowFacts}
use Rattle.klp_module_symbols.specs.declared.objects.CatalogSymbol.{CatalogSymbol}
use Rattle.klp_module_symbols.specs.declared.objects.ObjectSymbols.{ObjectSymbols}

-- a symbol of a catalog. One that is made up has no address of a kernel
pub record SymbolFacts : Type 0 where
  pub name : List ℕ
  pub address : Option ℕ
  pub is_function : Bool

-- an object of a catalog, and whether its symbols are made up
pub record ObjectFacts : Type 0 where
  pub name : List ℕ
  pub is_made_up : Bool
  pub symbols : List SymbolFacts

abbrev pub symbol_meaning : CatalogSymbol → SymbolFacts
symbol_meaning s = record { name = s.name.now; address = s.address; is_function = s.is_function }

abbrev pub object_meaning : ObjectSymbols → ObjectFacts
object_meaning o = record { name = o.name.now; is_made_up = o.is_made_up; symbols = map symbol_meaning o.symbols.items }

-- a name is there once
abbrev pub with_name : List (List ℕ) → List ℕ → List (List ℕ)
with_name names name = if list_any (bytes_eq name) names then names else names ++ name ∷ []

abbrev pub with_object : List (List ℕ) → Object → List (List ℕ)
with_object names object = with_name names (name_of_row object.row)

abbrev pub with_objects : List (List ℕ) → NamedPatch → List (List ℕ)
with_objects names p = fold with_object names p.patch.now.objects.items

-- the objects of a catalog: the kernel's image, and all that the patches change, each once
abbrev pub object_names : List NamedPatch → List (List ℕ)
object_names patches = fold with_objects (codes "vmlinux" ∷ []) patches

abbrev pub changes_of : NamedPatch → List Change
changes_of p = changed_by p.patch.now.objects.items

-- all functions that the patches change
abbrev pub uses_of : List NamedPatch → List Change
uses_of patches = flat_map changes_of patches

-- two changes name symbols of one name and object
abbrev pub is_same_name : Change → Change → Bool
is_same_name one other = bytes_eq (object_name one.object) (object_name other.object) && bytes_eq one.name other.name

abbrev pub with_use : List Change → Change → List Change
with_use uses named = if list_any (is_same_name named) uses then uses else uses ++ named ∷ []

-- what is named, each name of an object once
abbrev pub named_once : List Change → List Change
named_once uses = fold with_use [] uses

abbrev pub higher : Change → ℕ → Change → ℕ
higher symbol highest named = if is_same_name symbol named then max highest named.position else highest

-- the highest position at which a symbol of this name is named, and at least 1
abbrev pub highest_of : List Change → Change → ℕ
highest_of uses symbol = fold (higher symbol) 1 uses

abbrev pub is_row_of : Change → RowFacts → Bool
is_row_of symbol row = bytes_eq row.object (object_name symbol.object) && bytes_eq row.name symbol.name

abbrev pub known_symbol : RowFacts → SymbolFacts
known_symbol row = record { name = row.name; address = row.address; is_function = row.is_function }

abbrev pub made_up : Change → SymbolFacts
made_up symbol = record { name = symbol.name; address = None; is_function = true }

-- the kernel has some symbol of an object
abbrev pub is_known : List RowFacts → List ℕ → Bool
is_known rows object = list_any (λ (r : RowFacts). bytes_eq r.object object) rows

-- the symbols of a name: all that the kernel has, or as many as the patches count
abbrev pub symbols_named : Bool → List RowFacts → List Change → Change → List SymbolFacts
symbols_named known rows uses symbol =
    if known then map known_symbol (filter (is_row_of symbol) rows) else replicate (highest_of uses symbol) (made_up symbol)

abbrev pub is_of : List ℕ → Change → Bool
is_of object symbol = bytes_eq (object_name symbol.object) object

-- the symbols of an object, name by name
abbrev pub symbols_of : List RowFacts → List Change → List ℕ → List SymbolFacts
symbols_of rows uses object = flat_map (symbols_named (is_known rows object) rows uses) (filter (is_of object) (named_once uses))

-- an object with its symbols, which are made up if the kernel has none of it
abbrev pub object_of : List RowFacts → List Change → List ℕ → ObjectFacts
object_of rows uses object = record { name = object; is_made_up = not (is_known rows object); symbols = symbols_of rows uses object }

-- The objects of a catalog of these patches over a kernel with these symbols.
abbrev pub objects_of : List RowFacts → List NamedPatch → List ObjectFacts
objects_of rows patches = map (object_of rows (uses_of patches)) (object_names patches)
