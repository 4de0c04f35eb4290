use Rattle.std.proofs.Common.{◌≡◌, map, Ok}
use Rattle.klp_tables.specs.Counted.{rows_below}
use Rattle.klp_tables.specs.Kpatch.{kpatch_function_row, kpatch_meaning}
use Rattle.klp_tables.proofs.kpatch.kpatch_function_rows.Given as goal

abbrev pub invariant-loop-k : goal.invariant-loop-k
invariant-loop-k l = rows_below (kpatch_function_row l.elf l.table) l.k ≡ Ok (map kpatch_meaning l.rows.items)
