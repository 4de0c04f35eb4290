use Rattle.std.proofs.Common.{◌≡◌, filter, take}
use Rattle.klp_tables.specs.Finding.{found_by, is_patch}
use Rattle.klp_tables.proofs.finding.patches_among.Given as goal

abbrev pub invariant-loop-symbol : goal.invariant-loop-symbol
invariant-loop-symbol l = l.found ≡ found_by (filter (is_patch l.elf l.layout l.own) (take l.symbol-index l.symbols))
