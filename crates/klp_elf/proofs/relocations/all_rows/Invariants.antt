use Rattle.std.proofs.Common.{◌≡◌, ◌≤◌, length, take}
use Rattle.std.specs.List.{flat_map}
use Rattle.klp_elf.specs.Tables.{relocations_by}
use Rattle.klp_elf.specs.declared.elf.TheConstants.{MAX_RELOCATIONS}
use Rattle.klp_elf.proofs.relocations.all_rows.Given as goal

abbrev pub invariant-loop-table : goal.invariant-loop-table
invariant-loop-table l = record {
  rows : l.relocations.items ≡ flat_map (relocations_by l.bytes l.sections) (take l.table-index l.sections);
  few : length l.relocations.items ≤ MAX_RELOCATIONS;
}
