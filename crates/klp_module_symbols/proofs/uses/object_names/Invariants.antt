use Rattle.std.proofs.Common.{◌≡◌, map, take}
use Rattle.klp_module_symbols.specs.Symbols.{object_names}
use Rattle.klp_module_symbols.proofs.uses.object_names.Given as goal

abbrev pub invariant-loop-named : goal.invariant-loop-named
invariant-loop-named l = map (λ n. n.now) l.names.items ≡ object_names (take l.named-index l.patches)
