use Rattle.std.proofs.Common.{arith}
use Rattle.klp_page.proofs.RowLemmas.{rows_end}
use Rattle.klp_page.proofs.row.add_each_row.Goals as goal

pub returns : goal.returns
returns c =
    rows_end c.args.sheet.now c.loop-index.sheet c.add_last_folds.new.sheet c.args.names.now c.args.set_up c.loop-index.quiet c.loop-index.index c.args.rows.now
    (omega (arith, c.loop-index-test.false)) c.loop-index.auto.index-end c.loop-index.invariant.1 c.add_last_folds.ensures
