use Rattle.std.proofs.Common.{◌≡◌, take}
use Rattle.klp_module_matrix.specs.Changes.{shared_of}
use Rattle.klp_module_matrix.proofs.functions.shared.Given as goal

abbrev pub invariant-loop-function : goal.invariant-loop-function
invariant-loop-function l = l.shared.items ≡ shared_of (take l.function-index l.older) l.newer
