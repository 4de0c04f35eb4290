use Rattle.std.proofs.Common.{◌≡◌, take, map}
use Rattle.klp_catalog.specs.Stored.{symbol_count}
use Rattle.klp_catalog.proofs.assemble.symbol_counts.Given as goal

-- the counts of the objects so far
abbrev pub invariant-loop-object : goal.invariant-loop-object
invariant-loop-object l = l.counts.items ≡ take l.object (map symbol_count l.modules.names)
