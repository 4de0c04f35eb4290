use Rattle.std.proofs.Common.{◌≡◌, ◌+◌, length, map}
use Rattle.klp_types.specs.declared.limits.TheConstants.{MAX_SITES}
use Rattle.klp_module_symbols.specs.Symbols.{object_meaning}
use Rattle.klp_module_catalog.specs.Refusals.{symbol_count}
use Rattle.klp_module_catalog.proofs.draft.have_too_many.Given as goal

-- what is left of the room and of the symbols is as far apart as all of both
abbrev pub invariant-loop-rest : goal.invariant-loop-rest
invariant-loop-rest l = symbol_count (map object_meaning l.fn.objects) + l.room ≡ MAX_SITES + symbol_count (map object_meaning l.rest)

-- how many objects are left
abbrev pub decreases-loop-rest : goal.decreases-loop-rest
decreases-loop-rest l = length l.rest
