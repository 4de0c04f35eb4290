use Rattle.std.proofs.Common.{◌≡◌, map, take}
use Rattle.klp_tables.specs.Kpatch.{functions_for, kpatch_meaning}
use Rattle.klp_tables.specs.Rows.{function_meaning}
use Rattle.klp_tables.proofs.kpatch.functions_for.Given as goal

abbrev pub invariant-loop-row : goal.invariant-loop-row
invariant-loop-row l = map function_meaning l.functions.items ≡ functions_for (map kpatch_meaning (take l.row-index l.rows)) l.name
