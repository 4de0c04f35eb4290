use Rattle.std.proofs.Common.{◌≡◌, length, map, Ok}
use Rattle.klp_tables.specs.Counted.{rows_below}
use Rattle.klp_tables.specs.KlpBuild.{built_function_row}
use Rattle.klp_tables.specs.Rows.{function_meaning}
use Rattle.klp_tables.proofs.klp_build.built_function_rows.Given as goal

abbrev pub invariant-loop-k : goal.invariant-loop-k
invariant-loop-k l = record {
  rows : rows_below (built_function_row l.elf l.table) l.k ≡ Ok (map function_meaning l.functions.items);
  count : length l.functions.items ≡ l.k;
}
