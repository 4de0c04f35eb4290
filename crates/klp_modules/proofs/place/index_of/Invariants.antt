-- The symbols left.
use Rattle.std.proofs.Common.{◌≡◌, drop, bytes_eq, slice_get}
use Rattle.klp_types.specs.Image.{Symbol}
use Rattle.klp_modules.specs.Names.{sites_where}
use Rattle.klp_modules.proofs.place.index_of.Given as goal

abbrev pub invariant-loop-index : goal.invariant-loop-index
invariant-loop-index l =
    slice_get (sites_where (λ (s : Symbol). bytes_eq l.name s.name) 0 l.symbols) l.number
    ≡ slice_get (sites_where (λ (s : Symbol). bytes_eq l.name s.name) l.index (drop l.index l.symbols)) l.left
