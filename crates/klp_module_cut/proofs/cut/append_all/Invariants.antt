use Rattle.std.proofs.Common.{◌≡◌, ◌++◌, map, take}
use Rattle.klp_module_matrix.specs.Changes.{meaning}
use Rattle.klp_module_cut.specs.Cut.{changed_by_all}
use Rattle.klp_module_cut.proofs.cut.append_all.Given as goal

abbrev pub invariant-loop-named : goal.invariant-loop-named
invariant-loop-named l = map meaning l.changed.items ≡ map meaning l.initial.changed.items ++ changed_by_all (take l.named-index l.patches)
