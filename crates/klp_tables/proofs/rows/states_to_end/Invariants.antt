use Rattle.std.proofs.Common.{◌≡◌, ◌≤◌, length}
use Rattle.klp_tables.specs.Rows.{state_row, IsBegun}
use Rattle.klp_tables.proofs.rows.states_to_end.Given as goal

abbrev pub invariant-loop-k : goal.invariant-loop-k
invariant-loop-k l = record {
  rows : IsBegun (state_row l.elf l.layout l.table) l.states.items;
  count : length l.states.items ≡ l.k;
}
