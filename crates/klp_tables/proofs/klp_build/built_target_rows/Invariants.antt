use Rattle.std.proofs.Common.{◌≡◌, ◌≤◌, map, Ok}
use Rattle.klp_tables.specs.Counted.{rows_below, target_meaning}
use Rattle.klp_tables.specs.KlpBuild.{built_target_row, room_after}
use Rattle.klp_tables.specs.declared.limits.TheConstants.{MAX_FUNCTIONS}
use Rattle.klp_tables.proofs.klp_build.built_target_rows.Given as goal

abbrev pub invariant-loop-k : goal.invariant-loop-k
invariant-loop-k l = record {
  rows : rows_below (built_target_row l.elf l.table) l.k ≡ Ok (map target_meaning l.objects.items);
  small : l.room ≤ MAX_FUNCTIONS;
  left : l.room ≡ room_after (map target_meaning l.objects.items);
}
