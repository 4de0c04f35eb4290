-- Why no catalog is written.
use Rattle.std.specs.Prelude.{ℕ, nat_lt, List, length, Option, None, option_map}
use Rattle.std.specs.List.{sum_by}
use Rattle.klp_types.specs.declared.limits.TheConstants.{MAX_OBJECTS, MAX_SITES}
use Rattle.klp_module_fit.specs.Fit.{fit_fault, if_else, or_else}
use Rattle.klp_module_fit.specs.declared.NamedPatch.{NamedPatch}
use Rattle.klp_module_symbols.specs.Kernel.{RowFacts}
use Rattle.klp_module_symbols.specs.Symbols.{ObjectFacts, objects_of}
use Rattle.klp_module_catalog.specs.declared.fault.CatalogFault.{CatalogFault}
use Rattle.klp_module_catalog.specs.declared.fault.CatalogFault.TheVariants.{Unfit, TooManyObjects, TooManySymbols}

abbrev pub symbol_number : ObjectFacts → ℕ
symbol_number object = length object.symbols

-- how many symbols these objects have together
abbrev pub symbol_count : List ObjectFacts → ℕ
symbol_count objects = sum_by symbol_number objects

-- the objects of a catalog are too many, or the symbols of all together
abbrev pub room_fault : List ObjectFacts → Option CatalogFault
room_fault objects =
    if_else (nat_lt MAX_OBJECTS (length objects)) TooManyObjects (if_else (nat_lt MAX_SITES (symbol_count objects)) TooManySymbols None)

-- The first reason why no catalog of these patches is written over a kernel with these symbols: a catalog can't have the
-- patches, or has no room for the objects and symbols of all.
abbrev pub refusal_of : List RowFacts → List NamedPatch → Option CatalogFault
refusal_of rows patches = or_else (option_map (λ fault. Unfit fault) (fit_fault patches)) (room_fault (objects_of rows patches))
