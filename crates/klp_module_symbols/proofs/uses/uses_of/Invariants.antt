use Rattle.std.proofs.Common.{◌≡◌, map, take}
use Rattle.klp_module_matrix.specs.Changes.{meaning}
use Rattle.klp_module_symbols.specs.Symbols.{uses_of}
use Rattle.klp_module_symbols.proofs.uses.uses_of.Given as goal

abbrev pub invariant-loop-named : goal.invariant-loop-named
invariant-loop-named l = map meaning l.uses.items ≡ uses_of (take l.named-index l.patches)
