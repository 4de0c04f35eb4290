-- The objects so far, and those left.
use Rattle.std.proofs.Common.{◌≡◌, ◌++◌, drop}
use Rattle.klp_modules.specs.Tables.{placed_symbols}
use Rattle.klp_modules.proofs.tables.symbols_by_site.Given as goal

abbrev pub invariant-loop-place : goal.invariant-loop-place
invariant-loop-place l =
    l.table.items ++ placed_symbols l.place (drop l.place l.objects) ≡ placed_symbols 0 l.objects
