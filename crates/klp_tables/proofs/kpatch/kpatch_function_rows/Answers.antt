use Rattle.std.proofs.Common.{◌≡◌, ◌⊎◌, inr, map, Ok, Err, sym, ap, ◌∙◌, arith}
use Rattle.klp_tables.specs.Kpatch.{kpatch_function_at, kpatch_function_row, kpatch_meaning}
use Rattle.klp_tables.proofs.CountedLemmas.{fails_for_all, one_more_row}
use Rattle.klp_tables.proofs.kpatch.kpatch_function_rows.Goals as goal

pub returns-in-Err : goal.returns-in-Err
returns-in-Err c =
    inr (fails_for_all (kpatch_function_row c.args.elf.now c.args.table) c.loop-k.k c.args.count (map kpatch_meaning c.loop-k.rows.items)
    c.in-Err.fault c.loop-k.invariant (ap (kpatch_function_at c.args.elf.now) (sym c.row_place.ensures) ∙ c.in-Err.ensures) (omega arith))

pub loop-k-preserved : goal.loop-k-preserved
loop-k-preserved c =
    one_more_row (kpatch_function_row c.args.elf.now c.args.table) kpatch_meaning c.loop-k.k c.loop-k.rows.items c.push.new.self.items
    c.in-Ok.row c.loop-k.invariant (ap (kpatch_function_at c.args.elf.now) (sym c.row_place.ensures) ∙ c.in-Ok.ensures)
    c.in_ok-push-in-Ok.ensures.items
