use Rattle.std.proofs.Common.{◌≡◌, map, take}
use Rattle.std.specs.List.{fold}
use Rattle.klp_module_symbols.specs.Symbols.{with_object}
use Rattle.klp_module_symbols.proofs.uses.add_objects.Given as goal

abbrev pub invariant-loop-object : goal.invariant-loop-object
invariant-loop-object l = map (λ n. n.now) l.names.items ≡ fold with_object (map (λ n. n.now) l.initial.names.items) (take l.object-index l.objects)
