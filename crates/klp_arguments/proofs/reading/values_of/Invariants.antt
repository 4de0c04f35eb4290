use Rattle.std.proofs.Common.{◌≡◌, take}
use Rattle.klp_arguments.proofs.reading.values_of.Given as goal

-- the values so far
abbrev pub invariant-loop-value : goal.invariant-loop-value
invariant-loop-value l = l.list.items ≡ take l.value-index l.values
