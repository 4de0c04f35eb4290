-- One of two lists has ended, and the other hasn't.
use Rattle.std.proofs.Common.{◌≡◌, ◌<◌, false, List, [], ◌∷◌, length, map, refl, arith}
use Rattle.std.specs.Prelude.{◌==◌}
use mathlib.Core.Bool.{true≢false}
use Rattle.klp_types.specs.Image.{Object as ImageObject, Symbol}
use Rattle.klp_module_symbols.specs.Symbols.{object_meaning, symbol_meaning}
use Rattle.klp_module_symbols.specs.declared.objects.CatalogSymbol.{CatalogSymbol}
use Rattle.klp_module_symbols.specs.declared.objects.ObjectSymbols.{ObjectSymbols}
use Rattle.klp_module_catalog.specs.Said.{are_objects, are_symbols}

-- a list that isn't empty has an element
pub has_one : {A : Type 0} (xs : List A) → (length xs == 0) ≡ false → length xs < 1 → ⊥
has_one [] e l = true≢false e
has_one (x ∷ xs) e l = omega (arith, l)

-- symbols are left over
pub more_symbols : (left : List Symbol) (right : List CatalogSymbol) → (length left == 0) ≡ false → length right < 1
    → are_symbols left (map symbol_meaning right) ≡ false
more_symbols [] right e l = absurd (true≢false e)
more_symbols (symbol ∷ left) [] e l = refl
more_symbols (symbol ∷ left) (one ∷ right) e l = absurd (omega (arith, l))

-- objects are left over
pub more_objects : (left : List ImageObject) (right : List ObjectSymbols) → (length left == 0) ≡ false → length right < 1
    → are_objects left (map object_meaning right) ≡ false
more_objects [] right e l = absurd (true≢false e)
more_objects (object ∷ left) [] e l = refl
more_objects (object ∷ left) (one ∷ right) e l = absurd (omega (arith, l))
