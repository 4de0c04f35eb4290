use Rattle.std.proofs.Common.{◌≡◌, filter, map, take}
use Rattle.klp_module_matrix.specs.Changes.{meaning}
use Rattle.klp_module_symbols.specs.Traceable.{is_untraceable, traceable_meaning}
use Rattle.klp_module_symbols.proofs.traceable.untraceable.Given as goal

abbrev pub invariant-loop-change : goal.invariant-loop-change
invariant-loop-change l =
    map meaning l.refused.items ≡ filter (is_untraceable (map traceable_meaning l.rows)) (map meaning (take l.change-index l.changes))
