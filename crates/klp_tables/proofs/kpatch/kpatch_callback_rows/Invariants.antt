use Rattle.std.proofs.Common.{◌≡◌, map, Ok}
use Rattle.klp_tables.specs.Counted.{rows_below}
use Rattle.klp_tables.specs.Kpatch.{kpatch_callback_row}
use Rattle.klp_tables.proofs.kpatch.kpatch_callback_rows.Given as goal

abbrev pub invariant-loop-k : goal.invariant-loop-k
invariant-loop-k l = rows_below (kpatch_callback_row l.elf l.table) l.k ≡ Ok (map (λ n. n.now) l.names.items)
