-- When an image is refused.
use Rattle.std.specs.Prelude.{ℕ, ◌+◌, ◌^◌, Bool, false, not, ◌&&◌, ◌||◌, nat_lt, nat_le, List, [], ◌∷◌, ◌++◌, length, Option, Some, None, codes, bytes_eq, if◌then◌else◌}
use Rattle.std.specs.List.{list_any}
use Rattle.klp_types.specs.Image.{Symbol, Object, symbols_of}
use Rattle.klp_types.specs.Bytes.{entry_end, entry_address, can_reach}
use Rattle.klp_text.specs.declared.fault.ImageFault.{ImageFault}
use Rattle.klp_text.specs.declared.fault.ImageFault.TheVariants.{Overlap, ShortSymbol, Displacement, DuplicateObject, TooMany, NoKernel}

-- whether a symbol's body is longer than allowed
abbrev pub is_long : Symbol → Bool
is_long symbol = nat_lt 256 (length symbol.body)

-- whether there are more objects, more sites or longer bodies than the limits allow
abbrev pub is_too_many : List Object → Bool
is_too_many objects =
    nat_lt 17 (length objects) || nat_lt 256 (length (symbols_of objects)) || list_any is_long (symbols_of objects)

-- whether the first object is `vmlinux`
abbrev pub begins_with_kernel : List Object → Bool
begins_with_kernel [] = false
begins_with_kernel (object ∷ objects) = bytes_eq object.name (codes "vmlinux")

-- whether two objects have the same name
abbrev pub has_duplicate : List Object → Bool
has_duplicate [] = false
has_duplicate (object ∷ objects) = list_any (λ (later : Object). bytes_eq later.name object.name) objects || has_duplicate objects

-- whether some address is in both symbols
abbrev pub share_address : Symbol → Symbol → Bool
share_address a b = nat_lt a.address (b.address + length b.body) && nat_lt b.address (a.address + length a.body)

-- whether a symbol ends beyond the last address, or shares an address with an earlier one
abbrev pub is_in_the_way : List Symbol → Symbol → Bool
is_in_the_way earlier symbol =
    nat_le (2 ^ 64) (symbol.address + length symbol.body) || list_any (share_address symbol) earlier

-- the checks of the objects with their faults, in this order
abbrev pub object_tests : List Object → List (Bool × ImageFault)
object_tests objects =
    (is_too_many objects, TooMany) ∷ (not (begins_with_kernel objects), NoKernel) ∷ (has_duplicate objects, DuplicateObject) ∷ []

-- the checks of one symbol with their faults, given the symbols before it
abbrev pub symbol_tests : ℕ → List Symbol → Symbol → List (Bool × ImageFault)
symbol_tests handler earlier symbol =
    (nat_lt (length symbol.body) (entry_end symbol.body), ShortSymbol)
    ∷ (not (can_reach handler (entry_address symbol)), Displacement)
    ∷ (is_in_the_way earlier symbol, Overlap)
    ∷ []

-- the checks of these symbols in order, given the symbols before them
abbrev pub symbols_tests : ℕ → List Symbol → List Symbol → List (Bool × ImageFault)
symbols_tests handler earlier [] = []
symbols_tests handler earlier (symbol ∷ symbols) =
    symbol_tests handler earlier symbol ++ symbols_tests handler (earlier ++ symbol ∷ []) symbols

-- the fault of the first check that fails
abbrev pub first_fault : List (Bool × ImageFault) → Option ImageFault
first_fault [] = None
first_fault (test ∷ tests) = if test.0 then Some test.1 else first_fault tests

-- the fault of an image, if it has one
abbrev pub image_fault : ℕ → List Object → Option ImageFault
image_fault handler objects = first_fault (object_tests objects ++ symbols_tests handler [] (symbols_of objects))
