use Rattle.std.proofs.Common.{◌≡◌, ◌++◌, map, take, option_map}
use Rattle.klp_module_matrix.specs.Changes.{changed_in, meaning}
use Rattle.klp_module_matrix.proofs.functions.append_functions.Given as goal

abbrev pub invariant-loop-function : goal.invariant-loop-function
invariant-loop-function l =
    map meaning l.changed.items
    ≡ map meaning l.initial.changed.items ++ map (changed_in (option_map (λ n. n.now) l.object)) (take l.function-index l.functions)
