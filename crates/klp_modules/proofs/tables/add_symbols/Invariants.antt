-- The symbols so far, and those left.
use Rattle.std.proofs.Common.{◌≡◌, ◌++◌, drop}
use Rattle.klp_modules.specs.Tables.{placed}
use Rattle.klp_modules.proofs.tables.add_symbols.Given as goal

abbrev pub invariant-loop-place : goal.invariant-loop-place
invariant-loop-place l =
    l.table.items ++ placed l.object l.place l.symbols (drop l.place l.symbols)
    ≡ l.initial.table.items ++ placed l.object 0 l.symbols l.symbols
