use Rattle.std.proofs.Common.{◌≡◌, ◌≤◌, length, map}
use Rattle.std.specs.List.{All}
use Rattle.klp_tables.specs.Faults.{room_behind}
use Rattle.klp_tables.specs.Rows.{has_functions, object_row, row_of, IsBegun}
use Rattle.klp_tables.specs.declared.limits.TheConstants.{MAX_FUNCTIONS}
use Rattle.klp_tables.proofs.objects.objects_to_end.Given as goal

abbrev pub invariant-loop-k : goal.invariant-loop-k
invariant-loop-k l = record {
  rows : IsBegun (object_row l.elf l.layout.object l.table) (map row_of l.objects.items);
  functions : All (has_functions l.elf l.layout.function) l.objects.items;
  count : length l.objects.items ≡ l.k;
  small : l.room ≤ MAX_FUNCTIONS;
  left : l.room ≡ room_behind l.objects.items;
}
