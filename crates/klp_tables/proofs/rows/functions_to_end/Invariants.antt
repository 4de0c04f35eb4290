use Rattle.std.proofs.Common.{◌≡◌, ◌≤◌, length, map}
use Rattle.klp_tables.specs.Rows.{function_meaning, function_row, IsBegun}
use Rattle.klp_tables.proofs.rows.functions_to_end.Given as goal

abbrev pub invariant-loop-k : goal.invariant-loop-k
invariant-loop-k l = record {
  rows : IsBegun (function_row l.elf l.layout l.table) (map function_meaning l.functions.items);
  count : length l.functions.items ≡ l.k;
}
