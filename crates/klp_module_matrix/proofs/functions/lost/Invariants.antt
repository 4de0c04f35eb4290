use Rattle.std.proofs.Common.{◌≡◌, take}
use Rattle.klp_module_matrix.specs.Changes.{lost_of}
use Rattle.klp_module_matrix.proofs.functions.lost.Given as goal

abbrev pub invariant-loop-function : goal.invariant-loop-function
invariant-loop-function l = l.lost.items ≡ lost_of (take l.function-index l.older) l.newer
