-- What is counted and what is left are all symbols.
use Rattle.std.proofs.Common.{◌≡◌, ◌+◌, drop}
use Rattle.klp_modules.specs.Kept.{symbol_count}
use Rattle.klp_modules.proofs.tables.symbol_count.Given as goal

abbrev pub invariant-loop-object : goal.invariant-loop-object
invariant-loop-object l = l.count + symbol_count (drop l.object-index l.objects) ≡ symbol_count l.objects
