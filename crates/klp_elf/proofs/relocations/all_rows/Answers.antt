use Rattle.klp_elf.specs.Tables.{relocations_by}
use Rattle.klp_elf.proofs.LengthLemmas.{fault_after}
use Rattle.klp_elf.proofs.relocations.all_rows.Goals as goal

pub returns-in-Err : goal.returns-in-Err
returns-in-Err c =
    fault_after (relocations_by c.args.bytes.now c.args.sections.now) c.args.sections.now c.loop-table.table-index _
    c.loop-table.relocations.items c.in-Err.fault c.loop-table-test.true c.loop-table.invariant.rows c.in-Err.ensures
