-- The names so far.
use Rattle.std.proofs.Common.{◌≡◌, ◌∷◌, take, map, Some}
use Rattle.std.specs.Prelude.{slice_get}
use Rattle.klp_types.specs.Image.{Symbol, Object}
use Rattle.klp_modules.specs.Kept.{texts_of, AddsNames}
use Rattle.klp_modules.proofs.modules.numbered.Given as goal

abbrev pub invariant-loop-k : goal.invariant-loop-k
invariant-loop-k l = (given : Object) → slice_get l.image.image.objects l.object ≡ Some given →
    AddsNames (texts_of l.fn.names.keys) (texts_of l.names.keys)
    (given.name ∷ take l.k (map (λ (s : Symbol). s.name) given.symbols)) (l.name ∷ l.symbols.items)
